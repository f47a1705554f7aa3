-- What a call that is not refused has passed. Assumes nothing.
use Rattle.std.proofs.Common.{◌≡◌, ℕ, ◌<◌, Bool, true, false, cond, leb, Some, None, sym, refl}
use Rattle.std.proofs.lemmas.Bool.{leb-false, true≢false}
use Rattle.lock.specs.declared.Phase.{Phase}
use Rattle.lock.specs.declared.Phase.TheVariants.{Out, Bidding, Holding, Leaving}
use Rattle.lock.specs.declared.Kind.TheVariants.{Bid, Step, Leave}
use Rattle.lock.specs.declared.Call.{Call}
use Rattle.lock.specs.declared.Refusal.TheVariants.{NoPlace, WrongPhase, BidsSpent}
use Rattle.lock.specs.Calls.{fits, one_too_many, refusal}
use Rattle.lock.specs.Meaning.{Active}

pub record Admitted (n : ℕ) (f : Phase) (b : ℕ) (c : Call) : Type 0 where
  pub placed : c.place < n
  pub fit : fits c.kind f ≡ true
  pub room : one_too_many c.kind b ≡ false

admitted_by : (t u v : Bool) → cond t (Some NoPlace) (cond u (cond v (Some BidsSpent) None) (Some WrongPhase)) ≡ None → (t ≡ false) × (u ≡ true) × (v ≡ false)
admitted_by true u v e = cc
admitted_by false false v e = cc
admitted_by false true true e = cc
admitted_by false true false e = (refl, refl, refl)

pub admitted : (n : ℕ) (f : Phase) (b : ℕ) (c : Call) → refusal n f b c ≡ None → Admitted n f b c
admitted n f b c e =
    let parts = admitted_by (leb n c.place) (fits c.kind f) (one_too_many c.kind b) e in
    record { placed = leb-false n c.place parts.0; fit = parts.1; room = parts.2 }

pub out_fits : (f : Phase) → fits Bid f ≡ true → f ≡ Out
out_fits Out e = refl
out_fits Bidding e = cc
out_fits Holding e = cc
out_fits Leaving e = cc

pub holding_fits : (f : Phase) → fits Leave f ≡ true → f ≡ Holding
holding_fits Out e = cc
holding_fits Bidding e = cc
holding_fits Holding e = refl
holding_fits Leaving e = cc

pub active_fits : (f : Phase) → fits Step f ≡ true → Active f
active_fits Out e = absurd (true≢false (sym e))
active_fits Bidding e = tt
active_fits Holding e = absurd (true≢false (sym e))
active_fits Leaving e = tt
