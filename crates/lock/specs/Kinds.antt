-- The number by which a record names each kind of call, and the kind that a number names. Assumes nothing.
use Rattle.std.specs.Prelude.{ℕ, cond, List, ◌++◌, Ok, Err, codes, decimal, Result, ◌==◌}
use Rattle.lock.specs.declared.Kind.{Kind}
use Rattle.lock.specs.declared.Kind.TheVariants.{Bid, Step, Leave}
use Rattle.lock.specs.declared.UnknownKind.{UnknownKind}

abbrev pub kind_number : Kind → ℕ
kind_number Bid = 1
kind_number Step = 2
kind_number Leave = 3

-- the kind that a number names, or the number as one that names none
abbrev pub kind_numbered : ℕ → Result Kind UnknownKind
kind_numbered k = cond (k == 1) (Ok Bid) (cond (k == 2) (Ok Step) (cond (k == 3) (Ok Leave) (Err (record { 0 = k }))))

abbrev pub unknown_kind_text : UnknownKind → List ℕ
unknown_kind_text error = codes "no kind of call has the number " ++ decimal error.0
