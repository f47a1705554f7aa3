-- A register of a pile is one of the part whose registers it falls among. Assumes nothing.
use Rattle.std.specs.Prelude.{◌≡◌, ℕ, zero, suc, ◌+◌, ◌-◌, ◌<◌, ◌≤◌, List, [], ◌∷◌, ◌++◌, length, take, None, refl}
use Rattle.std.proofs.Common.{ap, ◌∙◌, arith}
use Rattle.std.proofs.lemmas.List.{length-take}
use Rattle.std.proofs.lemmas.Option.{slice_get_past}
use Rattle.std.specs.List.{slice_get}
use Rattle.lock.specs.Meaning.{register_answer}
use Rattle.pile.specs.Finding.{Meanings}
use Rattle.pile.specs.PileMeaning.{pile_meaning}

module _ {X : Type 0} where
  nth_take : (n : ℕ) (xs : List X) (k : ℕ) → k < n → slice_get (take n xs) k ≡ slice_get xs k
  nth_take zero xs k l = absurd (omega (arith, l))
  nth_take (suc n) [] k l = refl
  nth_take (suc n) (x ∷ xs) zero l = refl
  nth_take (suc n) (x ∷ xs) (suc k) l = nth_take n xs k (omega arith)

  nth_taken_past : (n : ℕ) (xs : List X) (k : ℕ) → n ≤ k → slice_get (take n xs) k ≡ None
  nth_taken_past n xs k l = slice_get_past (take n xs) k (omega (arith, length-take n xs))

  nth_first : (xs ys : List X) (k : ℕ) → k < length xs → slice_get (xs ++ ys) k ≡ slice_get xs k
  nth_first [] ys k l = absurd (omega (arith, l))
  nth_first (x ∷ xs) ys zero l = refl
  nth_first (x ∷ xs) ys (suc k) l = nth_first xs ys k (omega arith)

  nth_second : (xs ys : List X) (k : ℕ) → length xs ≤ k → slice_get (xs ++ ys) k ≡ slice_get ys (k - length xs)
  nth_second [] ys k l = ap (slice_get ys) (omega arith)
  nth_second (x ∷ xs) ys zero l = absurd (omega (arith, l))
  nth_second (x ∷ xs) ys (suc k) l = nth_second xs ys k (omega arith) ∙ ap (slice_get ys) (omega arith)

module _ (m : Meanings) (k : ℕ) where
  pub none_past_limit : 4096 ≤ k → register_answer (pile_meaning m) k ≡ None
  none_past_limit past = nth_taken_past 4096 (m.top.registers ++ (m.left.registers ++ m.right.registers)) k past

  module _ (within : k < 4096) where
    all : register_answer (pile_meaning m) k ≡ slice_get (m.top.registers ++ (m.left.registers ++ m.right.registers)) k
    all = nth_take 4096 (m.top.registers ++ (m.left.registers ++ m.right.registers)) k within

    pub one_of_top : k < length m.top.registers → register_answer (pile_meaning m) k ≡ register_answer m.top k
    one_of_top l = all ∙ nth_first m.top.registers (m.left.registers ++ m.right.registers) k l

    below_top : length m.top.registers ≤ k → register_answer (pile_meaning m) k ≡ slice_get (m.left.registers ++ m.right.registers) (k - length m.top.registers)
    below_top past = all ∙ nth_second m.top.registers (m.left.registers ++ m.right.registers) k past

    pub one_of_left : (j : ℕ) → j + length m.top.registers ≡ k → j < length m.left.registers → register_answer (pile_meaning m) k ≡ register_answer m.left j
    one_of_left j sum l =
        let same : k - length m.top.registers ≡ j = omega arith in
        below_top (omega arith) ∙ ap (slice_get (m.left.registers ++ m.right.registers)) same ∙ nth_first m.left.registers m.right.registers j l

    pub one_of_right : (j : ℕ) → j + length m.left.registers + length m.top.registers ≡ k → register_answer (pile_meaning m) k ≡ register_answer m.right j
    one_of_right j sum =
        below_top (omega arith)
        ∙ nth_second m.left.registers m.right.registers (k - length m.top.registers) (omega arith)
        ∙ ap (slice_get m.right.registers) (omega arith)
