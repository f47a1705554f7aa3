-- The bytes behind the cursor are the two of the next call and the rest, or fewer than two. Assumes nothing.
use Rattle.std.proofs.Common.{drop, sym, ap, ◌∙◌, arith, length-drop}
use Rattle.std.proofs.lemmas.List.{take_rest}
use Rattle.std.specs.Result.{result_unwrap_or}
use Rattle.lock.specs.declared.Kind.TheVariants.{Leave}
use Rattle.record.specs.Readers.{reading}
use Rattle.record.proofs.Passing.{kind_known}
use Rattle.record.proofs.Walk.{ended, came}
use Rattle.record.proofs.reader.Reader.next_call.Goals as goal

pub returns-in_default : goal.returns-in_default
returns-in_default c =
    let few = rw (take_rest, length-drop) at c.in_default.len_below in
    ended (reading c.args.self.now) (omega arith)

pub unwrap-requires : goal.unwrap-requires
unwrap-requires c =
    let self = c.args.self.now in
    let two = rw take_rest at c.in-len2-up.len_at_least in
    rw (c.try_from.ensures, take_rest) (kind_known self.bytes.now self.cursor self.passed self.at_a_call.0 self.at_a_call.1 two)

pub returns : goal.returns
returns c =
    let self = c.args.self.now in
    let front = take_rest self.bytes.now self.cursor in
    let rest = take_rest (drop self.cursor self.bytes.now) 2 in
    let two = rw (front, length-drop) at c.in-len2-up.len_at_least in
    let kind = ap (λ r. result_unwrap_or r Leave) (sym c.try_from.ensures ∙ c.unwrap.ensures) in
    came (reading self) _ _ _ front c.in-len2-up.len_at_least (sym kind) (rw (front, rest, length-drop, length-drop) (omega arith))
