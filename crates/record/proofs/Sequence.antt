-- What tests one after another come to. Assumes nothing.
use Rattle.std.proofs.Common.{◌≡◌, Bool, true, false, Ok, Err, Result, refl}
use Rattle.record.specs.declared.faults.RecordFault.{RecordFault}
use Rattle.record.specs.Checks.{◌then◌, refuse_if}

module _ {X : Type 0} where
  -- a test that failed is the outcome, whatever comes after
  pub fails_first : {Y : Type 0} (t u : Result Unit RecordFault) (x : X) (y : Y) (e : RecordFault) → (t then Ok x) ≡ Err e → ((t then u) then Ok y) ≡ Err e
  fails_first (Ok u) v x y e h = cc
  fails_first (Err d) v x y e h = cc

  pub passes : (t : Result Unit RecordFault) (x y : X) → (t then Ok x) ≡ Ok y → (t ≡ Ok tt) × (x ≡ y)
  passes (Ok u) x y h = (refl, cc)
  passes (Err d) x y h = cc

pub both_pass : (t u : Result Unit RecordFault) → (t then u) ≡ Ok tt → (t ≡ Ok tt) × (u ≡ Ok tt)
both_pass (Ok u) v h = (refl, h)
both_pass (Err d) v h = cc

pub not_refused : (b : Bool) (e : RecordFault) → refuse_if b e ≡ Ok tt → b ≡ false
not_refused false e h = refl
not_refused true e h = cc
