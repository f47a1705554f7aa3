-- The first place that holds. Assumes nothing.
use Rattle.std.specs.Prelude.{◌≡◌, ℕ, zero, suc, ◌<◌, ◌⊎◌, Some, None, Option, refl}
use Rattle.std.proofs.Common.{sym, ap, ◌∙◌, inl, inr, ⊎_elim, arith}
use Rattle.std.proofs.lemmas.Bool.{cases_eq}
use Rattle.lock.specs.declared.Phase.{Phase}
use Rattle.lock.specs.declared.Phase.TheVariants.{Out, Bidding, Holding, Leaving}
use Rattle.leaf.specs.Boards.{first_holding, or_here}

named_here : (f : ℕ → Phase) (n p : ℕ) (o : Option ℕ) (g : Phase) → (o ≡ Some p → f p ≡ Holding) → f n ≡ g → or_here o g n ≡ Some p → f p ≡ Holding
named_here f n p (Some q) g before here e = before e
named_here f n p None Out before here e = cc
named_here f n p None Bidding before here e = cc
named_here f n p None Holding before here e = let same : n ≡ p = cc in ap f (sym same) ∙ here
named_here f n p None Leaving before here e = cc

-- the first place that holds does hold
pub first_holds : (f : ℕ → Phase) (n p : ℕ) → first_holding f n ≡ Some p → f p ≡ Holding
first_holds f zero p e = cc
first_holds f (suc n) p e = named_here f n p (first_holding f n) (f n) (first_holds f n p) refl e

found_here : (f : ℕ → Phase) (n p : ℕ) (o : Option ℕ) (g : Phase) → ((q : ℕ) → o ≡ Some q → q ≡ p) → f n ≡ g → f p ≡ Holding → (n ≡ p) ⊎ (o ≡ Some p) → or_here o g n ≡ Some p
found_here f n p (Some q) g only here h w = ap Some (only q refl)
found_here f n p None Out only here h w = ⊎_elim (λ (e : n ≡ p). let k = ap f e in cc) (λ (e : None ≡ Some p). cc) w
found_here f n p None Bidding only here h w = ⊎_elim (λ (e : n ≡ p). let k = ap f e in cc) (λ (e : None ≡ Some p). cc) w
found_here f n p None Holding only here h w = ⊎_elim (λ (e : n ≡ p). ap Some e) (λ (e : None ≡ Some p). cc) w
found_here f n p None Leaving only here h w = ⊎_elim (λ (e : n ≡ p). let k = ap f e in cc) (λ (e : None ≡ Some p). cc) w

-- where at most one place holds, one that does is the first
pub holds_first : (f : ℕ → Phase) (n p : ℕ) → ((q : ℕ) → f q ≡ Holding → q ≡ p) → p < n → f p ≡ Holding → first_holding f n ≡ Some p
holds_first f zero p only l h = absurd (omega (arith, l))
holds_first f (suc n) p only l h =
    found_here f n p (first_holding f n) (f n) (λ q e. only q (first_holds f n q e)) refl h
    (⊎_elim
    (λ (e : n ≡ p). inl e)
    (λ (ne : n ≡ p → ⊥). inr (holds_first f n p only (omega (arith, l, ne)) h))
    (cases_eq n p))
