-- How a sum over places changes with what is summed. Assumes nothing.
use Rattle.std.proofs.Common.{◌≡◌, ℕ, zero, suc, ◌+◌, ◌<◌, ◌≤◌, sym, refl, ap, ⊎_elim, arith}
use Rattle.std.proofs.lemmas.Bool.{cases_eq}
use Rattle.lock.specs.Totals.{total}

pub total_same : (f g : ℕ → ℕ) (n : ℕ) → ((p : ℕ) → p < n → g p ≡ f p) → total g n ≡ total f n
total_same f g zero h = refl
total_same f g (suc n) h = omega (arith, h n (omega arith), total_same f g n (λ p l. h p (omega arith)))

-- where only place i changes, the sum changes by the difference there
pub total_changed : (f g : ℕ → ℕ) (n i : ℕ) → i < n → ((p : ℕ) → (p ≡ i → ⊥) → g p ≡ f p) → total g n + f i ≡ total f n + g i
total_changed f g zero i l h = omega (arith, l)
total_changed f g (suc n) i l h =
    ⊎_elim
    (λ (e : i ≡ n).
    let rest : total g n ≡ total f n = total_same f g n (λ p k. h p (λ (q : p ≡ i). omega arith)) in
    let f_here = ap f e in
    let g_here = ap g e in
    omega arith)
    (λ (ne : i ≡ n → ⊥).
    let here = h n (λ (q : n ≡ i). ne (sym q)) in
    let rest = total_changed f g n i (omega (arith, ne)) h in
    omega arith)
    (cases_eq i n)

-- the sum is at least what each place adds
pub total_has : (f : ℕ → ℕ) (n i : ℕ) → i < n → f i ≤ total f n
total_has f zero i l = absurd (omega (arith, l))
total_has f (suc n) i l =
    ⊎_elim
    (λ (e : i ≡ n). omega (arith, ap f e))
    (λ (ne : i ≡ n → ⊥). omega (arith, total_has f n i (omega (arith, l, ne))))
    (cases_eq i n)

pub total_none : (f : ℕ → ℕ) (n : ℕ) → ((p : ℕ) → f p ≡ 0) → total f n ≡ 0
total_none f zero h = refl
total_none f (suc n) h = omega (arith, h n, total_none f n h)
