-- How the meaning of a pile changes when one place of a side and its place at the top do. Assumes nothing.
use Rattle.std.specs.Prelude.{◌≡◌, ℕ, ◌+◌, ◌<◌, ◌≤◌, Some, None, Option, ◌≢◌, refl}
use Rattle.std.proofs.Common.{sym, ap, ◌∙◌, ⊎_elim, arith}
use Rattle.std.proofs.lemmas.Bool.{cases_eq}
use Rattle.lock.specs.declared.Phase.{Phase}
use Rattle.lock.specs.declared.Phase.TheVariants.{Out, Bidding, Holding, Leaving}
use Rattle.lock.specs.Meaning.{Meaning, WellFormed, SameSize, Turns, SamePhases, shut}
use Rattle.lock.specs.Totals.{total}
use Rattle.lock.proofs.Totals.{total_changed}
use Rattle.pile.specs.declared.Side.{Side}
use Rattle.pile.specs.declared.Side.TheVariants.{Left, Right}
use Rattle.pile.specs.Finding.{Meanings, side_of, top_place, room, found}
use Rattle.pile.specs.PileMeaning.{own_or_top, box_phase, box_mark, of_box, reserve, share, pile_meaning}
use Rattle.pile.specs.Joined.{bids_now, bidders, Joined}
use Rattle.pile.specs.Laws.Places.{other, each_side, top_places_apart, low_top_place, place_of, room_within, found_is}

-- the parts of a pile are well formed
pub record Formed (m : Meanings) : Type 0 where
  pub top : WellFormed m.top
  pub sides : (d : Side) → WellFormed (side_of d m)

-- place i of side d gets the phase f there, and the side's place at the top the phase g
pub record Event (m : Meanings) (d : Side) (i : ℕ) (f g : Phase) (m' : Meanings) : Type 0 where
  pub side : Turns (side_of d m) i f (side_of d m')
  pub top : Turns m.top (top_place d) g m'.top
  pub rest : side_of (other d) m' ≡ side_of (other d) m
  pub side_size : SameSize (side_of d m) (side_of d m')
  pub top_size : SameSize m.top m'.top

-- what own_or_top chooses is the same where its parts are, the top's only where it is chosen
pub own_or_top_same : {X : Type 0} (f f' : Phase) (x x' y y' : X) → f' ≡ f → x' ≡ x → (f ≡ Holding → y' ≡ y) → own_or_top f' x' y' ≡ own_or_top f x y
own_or_top_same {X} f f' x x' y y' e own above = ap (λ (h : Phase). own_or_top h x' y') e ∙ chosen f above
  where
    chosen : (h : Phase) → (h ≡ Holding → y' ≡ y) → own_or_top h x' y' ≡ own_or_top h x y
    chosen Out above = own
    chosen Bidding above = own
    chosen Holding above = above refl
    chosen Leaving above = own

pub own_chosen : {X : Type 0} (f : Phase) (x y : X) → (f ≢ Holding) → own_or_top f x y ≡ x
own_chosen Out x y not = refl
own_chosen Bidding x y not = refl
own_chosen Holding x y not = absurd (not refl)
own_chosen Leaving x y not = refl

pub unturned : (m m' : Meaning) (p : ℕ) (f : Phase) → Turns m p f m' → f ≡ m.phase p → SamePhases m m'
unturned m m' p f turns same q =
    ⊎_elim
    (λ (e : q ≡ p). ap m'.phase e ∙ turns.own ∙ same ∙ ap m.phase (sym e))
    (λ (ne : q ≡ p → ⊥). turns.others q ne)
    (cases_eq q p)

pub turned_same : (m m' : Meaning) (p : ℕ) → SamePhases m m' → Turns m p (m.phase p) m'
turned_same m m' p same = record { own = same p; others = λ q ne. same q }

pub same_size : (m m' : Meaning) → m' ≡ m → SameSize m m'
same_size m m' e = record { places = ap (λ (n : Meaning). n.places) e; wait_limit = ap (λ (n : Meaning). n.wait_limit) e; call_limit = ap (λ (n : Meaning). n.call_limit) e }

-- boxes other than the one at p are seen the same where the functions f and f' of a box are
pub others_seen : {X : Type 0} (m : Meanings) (f f' : Side → ℕ → X) (x : X) (p : ℕ) (d : Side) (i : ℕ) → m.left.places ≤ 64 → found m p ≡ Some (d, i) → ((j : ℕ) → (j ≢ i) → f' d j ≡ f d j) → ((j : ℕ) → f' (other d) j ≡ f (other d) j) → (q : ℕ) → (q ≢ p) → of_box f' x (found m q) ≡ of_box f x (found m q)
others_seen m f f' x p d i few there same across q ne = seen (found m q) refl
  where
    seen : (b : Option (Side × ℕ)) → found m q ≡ b → of_box f' x b ≡ of_box f x b
    seen None e = refl
    seen (Some b) e =
        each_side (λ (s : Side). (j : ℕ) → found m q ≡ Some (s, j) → f' s j ≡ f s j) d
        (λ j h. same j (λ (k : j ≡ i). ne ((found_is m few q d j h).1 ∙ ap (place_of d m) k ∙ sym (found_is m few p d i there).1)))
        (λ j h. across j)
        b.0 b.1 e

pub pile_sizes : (m m' : Meanings) → SameSize m.top m'.top → ((e : Side) → SameSize (side_of e m) (side_of e m')) → SameSize (pile_meaning m) (pile_meaning m')
pile_sizes m m' top sides =
    let left = sides Left in
    let right = sides Right in
    record { places = cc; wait_limit = cc; call_limit = cc }

credit_split : (m : Meanings) (d : Side) → (pile_meaning m).credit ≡ m.top.credit + share d m + share (other d) m
credit_split m Left = refl
credit_split m Right = omega arith

pub bids_split : (m : Meanings) (d : Side) → Joined m → (pile_meaning m).bids ≡ (side_of d m).bids + (side_of (other d) m).bids
bids_split m Left joined = omega (arith, joined.few_bids)
bids_split m Right joined = omega (arith, joined.few_bids)

module _ (m m' : Meanings) (d : Side) (i : ℕ) (f g : Phase) (event : Event m d i f g m') where
  side_sizes : (e : Side) → SameSize (side_of e m) (side_of e m')
  side_sizes = each_side (λ e. SameSize (side_of e m) (side_of e m')) d event.side_size (same_size (side_of (other d) m) (side_of (other d) m') event.rest)

  pub sizes : SameSize (pile_meaning m) (pile_meaning m')
  sizes = pile_sizes m m' event.top_size side_sizes

  pub same_found : (p : ℕ) → found m' p ≡ found m p
  same_found p =
      let left = (side_sizes Left).places in
      let whole = sizes.places in
      cc

  -- the place of the other side at the top is as it was
  across_top : m'.top.phase (top_place (other d)) ≡ m.top.phase (top_place (other d))
  across_top = event.top.others (top_place (other d)) (top_places_apart d)

  rest_phase : (j : ℕ) → (side_of (other d) m').phase j ≡ (side_of (other d) m).phase j
  rest_phase j = ap (λ (n : Meaning). n.phase j) event.rest

  -- where another place of the side holds, the top's phase stays
  pub turned : (p : ℕ) → m.left.places ≤ 64 → found m p ≡ Some (d, i) → ((j : ℕ) → (j ≢ i) → (side_of d m).phase j ≡ Holding → g ≡ m.top.phase (top_place d)) → Turns (pile_meaning m) p (own_or_top f f g) (pile_meaning m')
  turned p few there still =
      let own = event.side.own in
      let above = event.top.own in
      record {
        own = ap (of_box (box_phase m') Out) (same_found p ∙ there) ∙ own_or_top_same f ((side_of d m').phase i) f ((side_of d m').phase i) g (m'.top.phase (top_place d)) own own (λ _. above);
        others = λ q ne. ap (of_box (box_phase m') Out) (same_found q) ∙ others_seen m (box_phase m) (box_phase m') Out p d i few there
            (λ j apart. let same = event.side.others j apart in own_or_top_same ((side_of d m).phase j) ((side_of d m').phase j) ((side_of d m).phase j) ((side_of d m').phase j) (m.top.phase (top_place d)) (m'.top.phase (top_place d)) same same (λ h. above ∙ still j apart h))
            (λ j. own_or_top_same ((side_of (other d) m).phase j) ((side_of (other d) m').phase j) ((side_of (other d) m).phase j) ((side_of (other d) m').phase j) (m.top.phase (top_place (other d))) (m'.top.phase (top_place (other d))) (rest_phase j) (rest_phase j) (λ _. across_top))
            q ne;
      }

  same_room : (e : Side) → room e m' ≡ room e m
  same_room Left = (side_sizes Left).places
  same_room Right =
      let left = (side_sizes Left).places in
      let whole = sizes.places in
      cc

  -- the boxes that bid at the side, with the one that changed
  pub counted : i < (side_of d m).places → bidders d m' + bids_now ((side_of d m).phase i) ≡ bidders d m + bids_now f
  counted within =
      let places = event.side_size.places in
      let own = ap bids_now event.side.own in
      let changed = total_changed (λ j. bids_now ((side_of d m).phase j)) (λ j. bids_now ((side_of d m').phase j)) (side_of d m).places i within (λ j apart. ap bids_now (event.side.others j apart)) in
      rw places (omega (arith, changed, own))

  pub joined_after :
      m.left.places ≤ 64 → Joined m → i < room d m →
      ((j : ℕ) → (side_of d m').phase j ≡ Holding → g ≢ Out) →
      ((g ≢ Out) → (j : ℕ) × ((side_of d m').phase j ≡ Holding)) →
      m'.top.bids + bids_now f + (side_of d m).bids ≤ m.top.bids + bids_now ((side_of d m).phase i) + (side_of d m').bids →
      (side_of d m').bids + (side_of (other d) m).bids ≤ 1000000 → Joined m'
  joined_after few joined inside held used spent few_bids =
      let above = event.top.own in
      let rest_bids = ap (λ (n : Meaning). n.bids) event.rest in
      let rest_bidders = ap (λ (n : Meaning). total (λ j. bids_now (n.phase j)) n.places) event.rest in
      let all = counted (omega (arith, room_within m few d)) in
      record {
        held_in_use = each_side (λ e. (j : ℕ) → (side_of e m').phase j ≡ Holding → m'.top.phase (top_place e) ≢ Out) d (λ j h o. held j h (sym above ∙ o)) (λ j h o. joined.held_in_use (other d) j (sym (rest_phase j) ∙ h) (sym across_top ∙ o));
        in_use_held = each_side (λ e. (m'.top.phase (top_place e) ≢ Out) → (j : ℕ) × ((side_of e m').phase j ≡ Holding)) d (λ n. used (λ o. n (above ∙ o))) (λ n. let was = joined.in_use_held (other d) (λ o. n (across_top ∙ o)) in (was.0, rest_phase was.0 ∙ was.1));
        rest_out = λ k two. event.top.others k (λ (e : k ≡ top_place d). omega (arith, e, two, low_top_place d)) ∙ joined.rest_out k two;
        top_behind = omega (arith, joined.top_behind, all, spent, rest_bids, rest_bidders, split (λ e. bidders e m') d, split (λ e. bidders e m) d, split (λ e. (side_of e m').bids) d, split (λ e. (side_of e m).bids) d);
        few_bids = omega (arith, few_bids, rest_bids, split (λ e. (side_of e m').bids) d);
        cut_out = each_side (λ e. (j : ℕ) → room e m' ≤ j → (side_of e m').phase j ≡ Out) d
            (λ j l. event.side.others j (λ (e : j ≡ i). omega (arith, e, l, inside, same_room d)) ∙ joined.cut_out d j (omega (arith, l, same_room d)))
            (λ j l. rest_phase j ∙ joined.cut_out (other d) j (omega (arith, l, same_room (other d))));
      }
    where
      split : (F : Side → ℕ) (e : Side) → F Left + F Right ≡ F e + F (other e)
      split F Left = refl
      split F Right = omega arith

  -- the side has the holder that it had, and its place at the top is out where it was
  pub joined_kept :
      m.left.places ≤ 64 → Joined m → i < room d m →
      (f ≡ Holding → (side_of d m).phase i ≡ Holding) → ((side_of d m).phase i ≡ Holding → f ≡ Holding) →
      (g ≡ Out → m.top.phase (top_place d) ≡ Out) → (m.top.phase (top_place d) ≡ Out → g ≡ Out) →
      m'.top.bids + bids_now f + (side_of d m).bids ≤ m.top.bids + bids_now ((side_of d m).phase i) + (side_of d m').bids →
      (side_of d m').bids + (side_of (other d) m).bids ≤ 1000000 → Joined m'
  joined_kept few joined inside was stays in_use out =
      joined_after few joined inside
      (λ j h o. joined.held_in_use d j (before j h) (in_use o))
      (λ n. let found = joined.in_use_held d (λ o. n (out o)) in (found.0, after found.0 found.1))
    where
      before : (j : ℕ) → (side_of d m').phase j ≡ Holding → (side_of d m).phase j ≡ Holding
      before j h =
          ⊎_elim
          (λ (e : j ≡ i). ap (side_of d m).phase e ∙ was (sym event.side.own ∙ ap (side_of d m').phase (sym e) ∙ h))
          (λ (apart : j ≡ i → ⊥). sym (event.side.others j apart) ∙ h)
          (cases_eq j i)

      after : (j : ℕ) → (side_of d m).phase j ≡ Holding → (side_of d m').phase j ≡ Holding
      after j h =
          ⊎_elim
          (λ (e : j ≡ i). ap (side_of d m').phase e ∙ event.side.own ∙ stays (ap (side_of d m).phase (sym e) ∙ h))
          (λ (apart : j ≡ i → ⊥). event.side.others j apart ∙ h)
          (cases_eq j i)

  pub credit_before : (pile_meaning m).credit ≡ m.top.credit + ((side_of d m).credit + reserve (m.top.phase (top_place d)) (side_of d m).call_limit) + share (other d) m
  credit_before = credit_split m d

  pub credit_after : (pile_meaning m').credit ≡ m'.top.credit + ((side_of d m').credit + reserve g (side_of d m).call_limit) + share (other d) m
  credit_after =
      let above = event.top.own in
      let limit = event.side_size.call_limit in
      let rest_credit = ap (λ (n : Meaning). n.credit) event.rest in
      let rest_limit = ap (λ (n : Meaning). n.call_limit) event.rest in
      let across = across_top in
      let own_share : share d m' ≡ (side_of d m').credit + reserve g (side_of d m).call_limit = cc in
      let rest_share : share (other d) m' ≡ share (other d) m = cc in
      omega (arith, credit_split m' d, own_share, rest_share)

  pub same_registers : m'.top.registers ≡ m.top.registers → (side_of d m').registers ≡ (side_of d m).registers → (pile_meaning m').registers ≡ (pile_meaning m).registers
  same_registers top side =
      let sides = each_side (λ e. (side_of e m').registers ≡ (side_of e m).registers) d side (ap (λ (n : Meaning). n.registers) event.rest) in
      let left = sides Left in
      let right = sides Right in
      cc

  pub same_marks : (p : ℕ) → m.left.places ≤ 64 → found m p ≡ Some (d, i) → ((j : ℕ) → (j ≢ i) → (side_of d m').mark j ≡ (side_of d m).mark j) → ((j : ℕ) → (j ≢ i) → (side_of d m).phase j ≡ Holding → m'.top.mark (top_place d) ≡ m.top.mark (top_place d)) → m'.top.mark (top_place (other d)) ≡ m.top.mark (top_place (other d)) → (q : ℕ) → (q ≢ p) → (pile_meaning m').mark q ≡ (pile_meaning m).mark q
  same_marks p few there side above across q ne =
      ap (of_box (box_mark m') shut) (same_found q) ∙ others_seen m (box_mark m) (box_mark m') shut p d i few there
      (λ j apart. own_or_top_same ((side_of d m).phase j) ((side_of d m').phase j) ((side_of d m).mark j) ((side_of d m').mark j) (m.top.mark (top_place d)) (m'.top.mark (top_place d)) (event.side.others j apart) (side j apart) (above j apart))
      (λ j. own_or_top_same ((side_of (other d) m).phase j) ((side_of (other d) m').phase j) ((side_of (other d) m).mark j) ((side_of (other d) m').mark j) (m.top.mark (top_place (other d))) (m'.top.mark (top_place (other d))) (rest_phase j) (ap (λ (n : Meaning). n.mark j) event.rest) (λ _. across))
      q ne
