-- The lines of a report, as formats write them one behind the other. Assumes nothing.
use Rattle.std.proofs.Common.{◌≡◌, ℕ, List, [], ◌∷◌, ◌++◌, codes, refl, ap, ◌∙◌, append_assoc}
use Rattle.std.specs.List.{flat_map}
use Rattle.std.specs.Fmt.{decimal}
use Rattle.lock.specs.Meaning.{Meaning}
use Rattle.replay.specs.declared.report.Entry.{Entry}
use Rattle.replay.specs.declared.report.Summary.{Summary}
use Rattle.program.specs.Lines.{number_text, numbers_line, counts_in_order, entry_text, head_line, phases_line, phases_of, report_text}

-- numbers to the end of their line
abbrev pub to_end : List ℕ → List ℕ
to_end [] = codes "\n"
to_end (n ∷ ns) = codes " " ++ (decimal n ++ to_end ns)

numbers_to_end : (ns : List ℕ) → flat_map number_text ns ++ codes "\n" ≡ to_end ns
numbers_to_end [] = refl
numbers_to_end (n ∷ ns) =
    append_assoc (number_text n) (flat_map number_text ns) (codes "\n") ∙ ap (λ (l : List ℕ). number_text n ++ l) (numbers_to_end ns)

pub lines_join : (pile places : ℕ) (m : Meaning) (es : List Entry) (s : Summary) (head entries counts gap passed registers phases : List ℕ) → places ≡ m.places → head ≡ head_line pile places s.calls → entries ≡ head ++ flat_map entry_text es → counts ≡ entries ++ (codes "counts" ++ to_end (counts_in_order s.counts)) → gap ≡ counts ++ (codes "gap" ++ to_end (s.gap ∷ [])) → passed ≡ gap ++ (codes "passed" ++ to_end (s.passed ∷ [])) → registers ≡ passed ++ numbers_line (codes "registers") m.registers → phases ≡ registers ++ phases_line (phases_of m) → phases ≡ report_text pile m es s
lines_join pile places m es s head entries counts gap passed registers phases n a b c d e f g =
    cc (numbers_to_end (counts_in_order s.counts), numbers_to_end (s.gap ∷ []), numbers_to_end (s.passed ∷ []))
