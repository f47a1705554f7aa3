-- Where the places of a pile are: at which side, and back again. Assumes nothing.
use Rattle.std.specs.Prelude.{◌≡◌, ℕ, zero, suc, ◌+◌, ◌-◌, ◌<◌, ◌≤◌, Some, None, ◌≢◌, refl}
use Rattle.std.proofs.Common.{subst, ⊎_elim, arith}
use Rattle.std.proofs.lemmas.Bool.{lt-ltb, le-ltb, cases_lt}
use Rattle.std.proofs.lemmas.Bool.Decides.{nat_tests}
use Rattle.pile.specs.declared.Side.{Side}
use Rattle.pile.specs.declared.Side.TheVariants.{Left, Right}
use Rattle.pile.specs.Finding.{Meanings, side_of, top_place, pile_places, room, found}

abbrev pub other : Side → Side
other Left = Right
other Right = Left

-- what holds of a side and of the other holds of each
pub each_side : (P : Side → Type 0) (d : Side) → P d → P (other d) → (e : Side) → P e
each_side P Left x y Left = x
each_side P Left x y Right = y
each_side P Right x y Left = y
each_side P Right x y Right = x

pub top_places_apart : (d : Side) → top_place (other d) ≢ top_place d
top_places_apart Left e = omega (arith, e)
top_places_apart Right e = omega (arith, e)

pub low_top_place : (d : Side) → top_place d < 2
low_top_place Left = omega arith
low_top_place Right = omega arith

pub side_with : (k : ℕ) → k < 2 → (d : Side) × (top_place d ≡ k)
side_with zero l = (Left, refl)
side_with (suc zero) l = (Right, refl)
side_with (suc (suc k)) l = absurd (omega (arith, l))

-- the place of the pile that is place i of side d
abbrev pub place_of : Side → Meanings → ℕ → ℕ
place_of Left m i = i
place_of Right m i = m.left.places + i

module _ (m : Meanings) (few : m.left.places ≤ 64) where
  pub all_left : m.left.places ≤ pile_places m
  all_left = grind (arith, nat_tests)

  pub few_all : pile_places m ≤ 64
  few_all = grind (arith, nat_tests)

  pub room_within : (d : Side) → room d m ≤ (side_of d m).places
  room_within Left = omega arith
  room_within Right = grind (arith, nat_tests)

  -- a place of the pile has its place at the top
  pub top_used : (d : Side) (i : ℕ) → 1 ≤ m.top.places → i < room d m → top_place d < m.top.places
  top_used Left i some l = omega arith
  top_used Right i some l = grind (arith, nat_tests)

  pub placed : (d : Side) (i : ℕ) → i < room d m → place_of d m i < pile_places m
  placed Left i l = omega (arith, l, all_left)
  placed Right i l = omega (arith, l)

  pub found_at : (d : Side) (i : ℕ) → i < room d m → found m (place_of d m i) ≡ Some (d, i)
  found_at Left i l =
      let whole = lt-ltb i (pile_places m) (omega (arith, all_left)) in
      let here = lt-ltb i m.left.places l in
      rw (whole, here) refl
  found_at Right i l =
      let whole = lt-ltb (m.left.places + i) (pile_places m) (omega (arith, l)) in
      let past = le-ltb (m.left.places + i) m.left.places (omega arith) in
      let back : m.left.places + i - m.left.places ≡ i = omega arith in
      rw (whole, past, back) refl

  pub found_is : (p : ℕ) (d : Side) (i : ℕ) → found m p ≡ Some (d, i) → (i < room d m) × (p ≡ place_of d m i)
  found_is p d i e =
      ⊎_elim
      (λ (l : p < pile_places m).
      let whole = lt-ltb p (pile_places m) l in
      let there = rw whole at e in
      ⊎_elim
      (λ (h : p < m.left.places).
      let here = lt-ltb p m.left.places h in
      same (Left, p) (h, refl) (rw here at there))
      (λ (h : m.left.places ≤ p).
      let past = le-ltb p m.left.places h in
      same (Right, p - m.left.places) (omega (arith, l), omega arith) (rw past at there))
      (cases_lt p m.left.places))
      (λ (l : pile_places m ≤ p). let past = le-ltb p (pile_places m) l in let gone = rw past at e in cc)
      (cases_lt p (pile_places m))
    where
      same : (b : Side × ℕ) → (b.1 < room b.0 m) × (p ≡ place_of b.0 m b.1) → Some b ≡ Some (d, i) → (i < room d m) × (p ≡ place_of d m i)
      same b h k = let is : b ≡ (d, i) = cc in subst (λ (w : Side × ℕ). (w.1 < room w.0 m) × (p ≡ place_of w.0 m w.1)) is h

  pub found_none : (p : ℕ) → pile_places m ≤ p → found m p ≡ None
  found_none p l = let past = le-ltb p (pile_places m) l in rw past refl

  pub none_found : (p : ℕ) → found m p ≡ None → pile_places m ≤ p
  none_found p e =
      ⊎_elim
      (λ (l : p < pile_places m). let whole = lt-ltb p (pile_places m) l in let there = rw whole at e in cc)
      (λ (l : pile_places m ≤ p). l)
      (cases_lt p (pile_places m))
