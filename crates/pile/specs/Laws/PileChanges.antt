-- What an accepted call of a part makes of the pile: its meaning changes as that of a lock, and its
-- parts stay joined. Assumes nothing.
use Rattle.std.specs.Prelude.{◌≡◌, ℕ, ◌+◌, ◌<◌, ◌≤◌, true, false, ◌⊎◌, Some, None, Option, ◌≢◌, refl}
use Rattle.std.proofs.Common.{sym, ap, subst, subst₂, ◌∙◌, inl, inr, ⊎_elim, arith}
use Rattle.std.proofs.lemmas.Bool.{lt-leb, cases_eq}
use Rattle.lock.specs.declared.Phase.{Phase}
use Rattle.lock.specs.declared.Phase.TheVariants.{Out, Bidding, Holding, Leaving}
use Rattle.lock.specs.declared.Kind.{Kind}
use Rattle.lock.specs.declared.Kind.TheVariants.{Bid, Leave}
use Rattle.lock.specs.declared.Call.{Call}
use Rattle.lock.specs.declared.Refusal.{Refusal}
use Rattle.lock.specs.Calls.{Reply}
use Rattle.lock.specs.Calls.{bid_by, leave_by, fits, one_too_many, refusal}
use Rattle.lock.specs.Meaning.{Meaning, WellFormed, SameSize, Turns, SamePhases, MarkWaited, Waited, Moved, Entered, GoneOut, TurnTaken, Changes, refusal_of, shut}
use Rattle.lock.proofs.Totals.{total_has}
use Rattle.pile.specs.declared.Side.{Side}
use Rattle.pile.specs.declared.Side.TheVariants.{Left, Right}
use Rattle.pile.specs.Finding.{Meanings, side_of, top_place, pile_places, room, found}
use Rattle.pile.specs.PileMeaning.{own_or_top, box_phase, box_mark, of_box, reserve, pile_meaning}
use Rattle.pile.specs.Joined.{bids_now, bidders, Joined}
use Rattle.pile.specs.Laws.Places.{other, top_places_apart, room_within, top_used, placed, found_is}
use Rattle.pile.specs.Laws.Events.{Formed, Event, own_chosen, unturned, turned_same, same_size, bids_split, sizes, same_found, turned, joined_after, joined_kept, credit_before, credit_after, same_registers, same_marks}

abbrev pub call : Kind → ℕ → Call
call k p = record { kind = k; place = p }

-- calls of one kind are refused alike where there are such places, the phases fit alike and the bids are spent alike
pub refused_alike : (k : Kind) (n n' p p' b b' : ℕ) (f f' : Phase) → p < n → p' < n' → fits k f ≡ fits k f' → one_too_many k b ≡ one_too_many k b' → refusal n f b (call k p) ≡ refusal n' f' b' (call k p')
refused_alike k n n' p p' b b' f f' l l' fit spent =
    let there = lt-leb n p l in
    let there' = lt-leb n' p' l' in
    rw (there, there', fit, spent) refl

pub not_refused : (k : Kind) (n p b : ℕ) (f : Phase) → p < n → fits k f ≡ true → one_too_many k b ≡ false → refusal n f b (call k p) ≡ None
not_refused k n p b f l fit room = let there = lt-leb n p l in rw (there, fit, room) refl

out_or_not : (f : Phase) → (f ≡ Out) ⊎ (f ≢ Out)
out_or_not Out = inl refl
out_or_not Bidding = inr (λ (e : Bidding ≡ Out). cc)
out_or_not Holding = inr (λ (e : Holding ≡ Out). cc)
out_or_not Leaving = inr (λ (e : Leaving ≡ Out). cc)

-- two places of a lock that hold are one
one_holds : (m : Meaning) → WellFormed m → (i j : ℕ) → m.phase i ≡ Holding → m.phase j ≡ Holding → i ≡ j
one_holds m formed i j hi hj =
    let named_i = formed.holding_named i hi in
    let named_j = formed.holding_named j hj in
    cc

-- a side and the top made a move of the pile together
pub record BothMoved (m m' : Meanings) : Type 0 where
  pub moved : Moved (pile_meaning m) (pile_meaning m')
  pub size : SameSize (pile_meaning m) (pile_meaning m')
  pub bids : (pile_meaning m').bids ≡ (pile_meaning m).bids
  pub joined : Joined m'

module _ (m : Meanings) (formed : Formed m) (joined : Joined m) (d : Side) (i p : ℕ) (there : found m p ≡ Some (d, i)) where
  pub few : m.left.places ≤ 64
  few = (formed.sides Left).few_places

  inside : i < room d m
  inside = (found_is m few p d i there).0

  pub side_within : i < (side_of d m).places
  side_within = omega (arith, inside, room_within m few d)

  pub top_within : top_place d < m.top.places
  top_within = top_used m few d i formed.top.some_place inside

  pub pile_within : p < pile_places m
  pile_within = omega (arith, (found_is m few p d i there).1, placed m few d i inside)

  pub phase_is : (pile_meaning m).phase p ≡ box_phase m d i
  phase_is = ap (of_box (box_phase m) Out) there

  mark_is : (pile_meaning m).mark p ≡ box_mark m d i
  mark_is = ap (of_box (box_mark m) shut) there

  pub phase_below : ((side_of d m).phase i ≢ Holding) → (pile_meaning m).phase p ≡ (side_of d m).phase i
  phase_below below = phase_is ∙ own_chosen ((side_of d m).phase i) ((side_of d m).phase i) (m.top.phase (top_place d)) below

  pub phase_above : (side_of d m).phase i ≡ Holding → (pile_meaning m).phase p ≡ m.top.phase (top_place d)
  phase_above holds = phase_is ∙ ap (λ (f : Phase). own_or_top f ((side_of d m).phase i) (m.top.phase (top_place d))) holds

  -- another place of a side that the box holds does not hold
  only_holder : (side_of d m).phase i ≡ Holding → (j : ℕ) → (j ≢ i) → (side_of d m).phase j ≢ Holding
  only_holder holds j apart h = apart (one_holds (side_of d m) (formed.sides d) j i h holds)

  -- a call at the side alone
  module _ (m' : Meanings) (top : m'.top ≡ m.top) (rest : side_of (other d) m' ≡ side_of (other d) m) (size : SameSize (side_of d m) (side_of d m')) where
    side_event : (f : Phase) → Turns (side_of d m) i f (side_of d m') → Event m d i f (m.top.phase (top_place d)) m'
    side_event f turns =
        record {
          side = turns;
          top = turned_same m.top m'.top (top_place d) (λ q. ap (λ (n : Meaning). n.phase q) top);
          rest = rest;
          side_size = size;
          top_size = same_size m.top m'.top top;
        }

    module _ (f : Phase) (turns : Turns (side_of d m) i f (side_of d m')) where
      side_turned : Turns (pile_meaning m) p (own_or_top f f (m.top.phase (top_place d))) (pile_meaning m')
      side_turned = turned m m' d i f (m.top.phase (top_place d)) (side_event f turns) p few there (λ j apart holds. refl)

      side_credit : (side_of d m').credit < (side_of d m).credit → (pile_meaning m').credit < (pile_meaning m).credit
      side_credit falls =
          omega (arith, falls, ap (λ (n : Meaning). n.credit) top, credit_before m m' d i f (m.top.phase (top_place d)) (side_event f turns), credit_after m m' d i f (m.top.phase (top_place d)) (side_event f turns))

      side_joined : (f ≡ Holding → (side_of d m).phase i ≡ Holding) → ((side_of d m).phase i ≡ Holding → f ≡ Holding) → bids_now f + (side_of d m).bids ≤ bids_now ((side_of d m).phase i) + (side_of d m').bids → (side_of d m').bids + (side_of (other d) m).bids ≤ 1000000 → Joined m'
      side_joined was stays spent few_bids =
          joined_kept m m' d i f (m.top.phase (top_place d)) (side_event f turns) few joined inside was stays (λ e. e) (λ e. e) (omega (arith, spent, ap (λ (n : Meaning). n.bids) top)) few_bids

    pub side_bidden : (side_of d m).phase i ≡ Out → (side_of d m).bids + (side_of (other d) m).bids < 1000000 → (r : Reply) → TurnTaken (side_of d m) i Bidding 1 r (side_of d m') → TurnTaken (pile_meaning m) p Bidding 1 r (pile_meaning m') × Joined m'
    side_bidden out less r turn =
        let now_joined : Joined m' = side_joined Bidding turn.phases (λ (e : Bidding ≡ Holding). cc) (λ (e : (side_of d m).phase i ≡ Holding). cc) (omega (arith, turn.more_bids)) (omega (arith, turn.more_bids, less)) in (
          record {
            reply = turn.reply;
            phases = side_turned Bidding turn.phases;
            registers = same_registers m m' d i Bidding (m.top.phase (top_place d)) (side_event Bidding turn.phases) (ap (λ (n : Meaning). n.registers) top) turn.registers;
            credit = side_credit Bidding turn.phases turn.credit;
            more_bids = omega (arith, turn.more_bids, bids_split m d joined, bids_split m' d now_joined, ap (λ (n : Meaning). n.bids) rest);
          },
          now_joined,
        )

    module _ (bids : (side_of d m').bids ≡ (side_of d m).bids) where
      pub same_bids_below : Joined m' → (pile_meaning m').bids ≡ (pile_meaning m).bids
      same_bids_below now_joined = omega (arith, bids, bids_split m d joined, bids_split m' d now_joined, ap (λ (n : Meaning). n.bids) rest)

      still_few : (side_of d m').bids + (side_of (other d) m).bids ≤ 1000000
      still_few = omega (arith, bids, bids_split m d joined, joined.few_bids)

      pub side_kept : SamePhases (side_of d m) (side_of d m') → Joined m'
      side_kept same = side_joined ((side_of d m).phase i) (turned_same (side_of d m) (side_of d m') i same) (λ e. e) (λ e. e) (omega (arith, bids)) still_few

      side_still : SamePhases (side_of d m) (side_of d m') → SamePhases (pile_meaning m) (pile_meaning m')
      side_still same = unturned (pile_meaning m) (pile_meaning m') p (box_phase m d i) (side_turned ((side_of d m).phase i) (turned_same (side_of d m) (side_of d m') i same)) (sym phase_is)

      pub side_waited : Waited (side_of d m) i (side_of d m') → Waited (pile_meaning m) p (pile_meaning m')
      side_waited waited =
          let turns = turned_same (side_of d m) (side_of d m') i waited.phases in
          let event = side_event ((side_of d m).phase i) turns in
          let mark_before = mark_is ∙ own_chosen ((side_of d m).phase i) ((side_of d m).mark i) (m.top.mark (top_place d)) (bids_there waited.bidding) in
          let mark_after = ap (of_box (box_mark m') shut) (same_found m m' d i ((side_of d m).phase i) (m.top.phase (top_place d)) event p ∙ there) ∙ own_chosen ((side_of d m').phase i) ((side_of d m').mark i) (m'.top.mark (top_place d)) (bids_there (waited.phases i ∙ waited.bidding)) in
          record {
            bidding = phase_below (bids_there waited.bidding) ∙ waited.bidding;
            phases = side_still waited.phases;
            registers = same_registers m m' d i ((side_of d m).phase i) (m.top.phase (top_place d)) event (ap (λ (n : Meaning). n.registers) top) waited.registers;
            credit = omega (arith, waited.credit, ap (λ (n : Meaning). n.credit) top, credit_before m m' d i ((side_of d m).phase i) (m.top.phase (top_place d)) event, credit_after m m' d i ((side_of d m).phase i) (m.top.phase (top_place d)) event);
            own_mark = subst₂ MarkWaited (sym mark_before) (sym mark_after) waited.own_mark;
            other_marks = same_marks m m' d i ((side_of d m).phase i) (m.top.phase (top_place d)) event p few there waited.other_marks (λ j apart holds. ap (λ (n : Meaning). n.mark (top_place d)) top) (ap (λ (n : Meaning). n.mark (top_place (other d))) top);
          }
        where
          bids_there : {f : Phase} → f ≡ Bidding → f ≢ Holding
          bids_there b h = cc

      pub side_moved : Moved (side_of d m) (side_of d m') → Moved (pile_meaning m) (pile_meaning m')
      side_moved moved =
          record {
            phases = side_still moved.phases;
            credit = side_credit ((side_of d m).phase i) (turned_same (side_of d m) (side_of d m') i moved.phases) moved.credit;
          }

      pub side_gone : GoneOut (side_of d m) i (side_of d m') → GoneOut (pile_meaning m) p (pile_meaning m') × Joined m'
      side_gone gone =
          let leaving = gone.leaving in (
            record {
              leaving = phase_below (λ (h : (side_of d m).phase i ≡ Holding). cc) ∙ leaving;
              phases = side_turned Out gone.phases;
              credit = side_credit Out gone.phases gone.credit;
            },
            side_joined Out gone.phases (λ (e : Out ≡ Holding). cc) (λ (e : (side_of d m).phase i ≡ Holding). cc) (omega (arith, bids)) still_few,
          )

  -- a call at the top alone, of a box that holds its side
  module _ (m' : Meanings) (sides : (e : Side) → side_of e m' ≡ side_of e m) (size : SameSize m.top m'.top) (holds : (side_of d m).phase i ≡ Holding) where
    top_event : (g : Phase) → Turns m.top (top_place d) g m'.top → Event m d i Holding g m'
    top_event g turns =
        record {
          side = subst (λ (f : Phase). Turns (side_of d m) i f (side_of d m')) holds (turned_same (side_of d m) (side_of d m') i (λ q. ap (λ (n : Meaning). n.phase q) (sides d)));
          top = turns;
          rest = sides (other d);
          side_size = same_size (side_of d m) (side_of d m') (sides d);
          top_size = size;
        }

    module _ (g : Phase) (turns : Turns m.top (top_place d) g m'.top) where
      top_turned : Turns (pile_meaning m) p g (pile_meaning m')
      top_turned = turned m m' d i Holding g (top_event g turns) p few there (λ j apart h. absurd (only_holder holds j apart h))

      top_credit : reserve g (side_of d m).call_limit ≤ reserve (m.top.phase (top_place d)) (side_of d m).call_limit → m'.top.credit < m.top.credit → (pile_meaning m').credit < (pile_meaning m).credit
      top_credit lower falls =
          omega (arith, lower, falls, ap (λ (n : Meaning). n.credit) (sides d), credit_before m m' d i Holding g (top_event g turns), credit_after m m' d i Holding g (top_event g turns))

      module _ (bids : m'.top.bids ≡ m.top.bids) where
        side_bids : (side_of d m').bids ≡ (side_of d m).bids
        side_bids = ap (λ (n : Meaning). n.bids) (sides d)

        top_joined : (g ≡ Out → m.top.phase (top_place d) ≡ Out) → (m.top.phase (top_place d) ≡ Out → g ≡ Out) → Joined m'
        top_joined in_use out =
            let counts = ap bids_now holds in
            joined_kept m m' d i Holding g (top_event g turns) few joined inside (λ e. holds) (λ e. refl) in_use out
            (omega (arith, bids, side_bids, counts)) (omega (arith, side_bids, bids_split m d joined, joined.few_bids))

    pub same_bids_above : Joined m' → (pile_meaning m').bids ≡ (pile_meaning m).bids
    same_bids_above now_joined =
        omega (arith, bids_split m d joined, bids_split m' d now_joined, ap (λ (n : Meaning). n.bids) (sides d), ap (λ (n : Meaning). n.bids) (sides (other d)))

    pub top_left : m.top.phase (top_place d) ≡ Holding → (r : Reply) → TurnTaken m.top (top_place d) Leaving 0 r m'.top → TurnTaken (pile_meaning m) p Leaving 0 r (pile_meaning m') × Joined m'
    top_left above r turn =
        let now_joined : Joined m' = top_joined Leaving turn.phases (omega (arith, turn.more_bids)) (λ (e : Leaving ≡ Out). cc) (λ (e : m.top.phase (top_place d) ≡ Out). cc) in
        let before = ap (λ (f : Phase). reserve f (side_of d m).call_limit) above in (
          record {
            reply = turn.reply;
            phases = top_turned Leaving turn.phases;
            registers = same_registers m m' d i Holding Leaving (top_event Leaving turn.phases) turn.registers (ap (λ (n : Meaning). n.registers) (sides d));
            credit = top_credit Leaving turn.phases (omega (arith, before)) turn.credit;
            more_bids = omega (arith, same_bids_above now_joined);
          },
          now_joined,
        )

    module _ (bids : m'.top.bids ≡ m.top.bids) where
      top_still : SamePhases m.top m'.top → SamePhases (pile_meaning m) (pile_meaning m')
      top_still same = unturned (pile_meaning m) (pile_meaning m') p (m.top.phase (top_place d)) (top_turned (m.top.phase (top_place d)) (turned_same m.top m'.top (top_place d) same)) (sym (phase_above holds))

      pub top_kept : SamePhases m.top m'.top → Joined m'
      top_kept same = top_joined (m.top.phase (top_place d)) (turned_same m.top m'.top (top_place d) same) bids (λ e. e) (λ e. e)

      pub top_waited : Waited m.top (top_place d) m'.top → Waited (pile_meaning m) p (pile_meaning m')
      top_waited waited =
          let turns = turned_same m.top m'.top (top_place d) waited.phases in
          let g = m.top.phase (top_place d) in
          let event = top_event g turns in
          let mark_before = mark_is ∙ ap (λ (f : Phase). own_or_top f ((side_of d m).mark i) (m.top.mark (top_place d))) holds in
          let mark_after = ap (of_box (box_mark m') shut) (same_found m m' d i Holding g event p ∙ there) ∙ ap (λ (f : Phase). own_or_top f ((side_of d m').mark i) (m'.top.mark (top_place d))) event.side.own in
          record {
            bidding = phase_above holds ∙ waited.bidding;
            phases = top_still waited.phases;
            registers = same_registers m m' d i Holding g event waited.registers (ap (λ (n : Meaning). n.registers) (sides d));
            credit = omega (arith, waited.credit, ap (λ (n : Meaning). n.credit) (sides d), credit_before m m' d i Holding g event, credit_after m m' d i Holding g event);
            own_mark = subst₂ MarkWaited (sym mark_before) (sym mark_after) waited.own_mark;
            other_marks = same_marks m m' d i Holding g event p few there (λ j apart. ap (λ (n : Meaning). n.mark j) (sides d)) (λ j apart h. absurd (only_holder holds j apart h)) (waited.other_marks (top_place (other d)) (top_places_apart d));
          }

      pub top_moved : Moved m.top m'.top → Moved (pile_meaning m) (pile_meaning m')
      top_moved moved =
          record {
            phases = top_still moved.phases;
            credit = top_credit (m.top.phase (top_place d)) (turned_same m.top m'.top (top_place d) moved.phases) (omega arith) moved.credit;
          }

      pub top_entered : Entered m.top (top_place d) m'.top → Entered (pile_meaning m) p (pile_meaning m') × Joined m'
      top_entered entered =
          let bidding = entered.bidding in (
            record { bidding = phase_above holds ∙ bidding; phases = top_turned Holding entered.phases },
            top_joined Holding entered.phases bids (λ (e : Holding ≡ Out). cc) (λ (e : m.top.phase (top_place d) ≡ Out). cc),
          )

  -- a step that enters the side, and the bid at the top that follows it
  module _ (m' : Meanings) (rest : side_of (other d) m' ≡ side_of (other d) m) (size : SameSize (side_of d m) (side_of d m')) (formed' : WellFormed (side_of d m')) (bids : (side_of d m').bids ≡ (side_of d m).bids) (entered : Entered (side_of d m) i (side_of d m')) where
    nobody_held : (j : ℕ) → (side_of d m).phase j ≢ Holding
    nobody_held j h =
        ⊎_elim
        (λ (e : j ≡ i). let same = ap (side_of d m).phase e in let bidding = entered.bidding in cc)
        (λ (apart : j ≡ i → ⊥). apart (one_holds (side_of d m') formed' j i (entered.phases.others j apart ∙ h) entered.phases.own))
        (cases_eq j i)

    top_was_out : m.top.phase (top_place d) ≡ Out
    top_was_out =
        ⊎_elim
        (λ (e : m.top.phase (top_place d) ≡ Out). e)
        (λ (used : m.top.phase (top_place d) ≡ Out → ⊥). let holder = joined.in_use_held d used in absurd (nobody_held holder.0 holder.1))
        (out_or_not (m.top.phase (top_place d)))

    -- one bid at the side has not come to the top yet
    top_has_room : m.top.bids < 1000000
    top_has_room =
        let bidder = total_has (λ j. bids_now ((side_of d m).phase j)) (side_of d m).places i side_within in
        let counts = ap bids_now entered.bidding in
        omega (arith, joined.top_behind, joined.few_bids, one_of_both d (omega (arith, bidder, counts)))
      where
        one_of_both : (e : Side) → 1 ≤ bidders e m → 1 ≤ bidders Left m + bidders Right m
        one_of_both Left l = omega (arith, l)
        one_of_both Right l = omega (arith, l)

    not_refused_above : refusal_of m.top (bid_by (top_place d)) ≡ None
    not_refused_above =
        not_refused Bid m.top.places (top_place d) m.top.bids (m.top.phase (top_place d)) top_within (ap (fits Bid) top_was_out) (lt-leb 1000000 m.top.bids top_has_room)

    pub climbed : (q : Reply) → Changes (refusal_of m.top (bid_by (top_place d))) m.top (bid_by (top_place d)) q m'.top → BothMoved m m'
    climbed q changes = go (subst (λ (o : Option Refusal). Changes o m.top (bid_by (top_place d)) q m'.top) not_refused_above changes)
      where
        go : TurnTaken m.top (top_place d) Bidding 1 q m'.top × SameSize m.top m'.top → BothMoved m m'
        go bid =
            let event : Event m d i Holding Bidding m' = record { side = entered.phases; top = bid.0.phases; rest = rest; side_size = size; top_size = bid.1 } in
            let before = ap (λ (f : Phase). reserve f (side_of d m).call_limit) top_was_out in
            let counts = ap bids_now entered.bidding in
            let bidding = entered.bidding in
            let now_joined : Joined m' =
            joined_after m m' d i Holding Bidding event few joined inside
            (λ j h (e : Bidding ≡ Out). cc)
            (λ n. (i, entered.phases.own))
            (omega (arith, bid.0.more_bids, bids, counts))
            (omega (arith, bids, bids_split m d joined, joined.few_bids))
            in
            record {
              moved = record {
                phases = unturned (pile_meaning m) (pile_meaning m') p Bidding (turned m m' d i Holding Bidding event p few there (λ j apart h. absurd (nobody_held j h))) (sym (phase_below (nobody_held i) ∙ bidding));
                credit = omega (arith, bid.0.credit, formed'.within_limit, size.call_limit, before, credit_before m m' d i Holding Bidding event, credit_after m m' d i Holding Bidding event);
              };
              size = sizes m m' d i Holding Bidding event;
              bids = omega (arith, bids_split m d joined, bids_split m' d now_joined, bids, ap (λ (x : Meaning). x.bids) rest);
              joined = now_joined;
            }

  -- a step that is out at the top, and the leave of the side that follows it
  module _ (m' : Meanings) (rest : side_of (other d) m' ≡ side_of (other d) m) (size : SameSize m.top m'.top) (bids : m'.top.bids ≡ m.top.bids) (holds : (side_of d m).phase i ≡ Holding) (gone : GoneOut m.top (top_place d) m'.top) where
    not_refused_below : refusal_of (side_of d m) (leave_by i) ≡ None
    not_refused_below =
        not_refused Leave (side_of d m).places i (side_of d m).bids ((side_of d m).phase i) side_within (ap (fits Leave) holds) refl

    pub descended : (q : Reply) → Changes (refusal_of (side_of d m) (leave_by i)) (side_of d m) (leave_by i) q (side_of d m') → BothMoved m m'
    descended q changes = go (subst (λ (o : Option Refusal). Changes o (side_of d m) (leave_by i) q (side_of d m')) not_refused_below changes)
      where
        go : TurnTaken (side_of d m) i Leaving 0 q (side_of d m') × SameSize (side_of d m) (side_of d m') → BothMoved m m'
        go leave =
            let event : Event m d i Leaving Out m' = record { side = leave.0.phases; top = gone.phases; rest = rest; side_size = leave.1; top_size = size } in
            let before = ap (λ (f : Phase). reserve f (side_of d m).call_limit) gone.leaving in
            let counts = ap bids_now holds in
            let now_joined : Joined m' =
            joined_after m m' d i Leaving Out event few joined inside
            (λ j h e. nobody_holds leave j h)
            (λ n. absurd (n refl))
            (omega (arith, leave.0.more_bids, bids, counts))
            (omega (arith, leave.0.more_bids, bids_split m d joined, joined.few_bids))
            in
            record {
              moved = record {
                phases = unturned (pile_meaning m) (pile_meaning m') p Leaving (turned m m' d i Leaving Out event p few there (λ j apart h. absurd (only_holder holds j apart h))) (sym (phase_above holds ∙ gone.leaving));
                credit = omega (arith, gone.credit, leave.0.credit, before, credit_before m m' d i Leaving Out event, credit_after m m' d i Leaving Out event);
              };
              size = sizes m m' d i Leaving Out event;
              bids = omega (arith, bids_split m d joined, bids_split m' d now_joined, leave.0.more_bids, ap (λ (x : Meaning). x.bids) rest);
              joined = now_joined;
            }
          where
            nobody_holds : TurnTaken (side_of d m) i Leaving 0 q (side_of d m') × SameSize (side_of d m) (side_of d m') → (j : ℕ) → (side_of d m').phase j ≢ Holding
            nobody_holds left j h =
                ⊎_elim
                (λ (e : j ≡ i). let same = ap (side_of d m').phase e in let own = left.0.phases.own in cc)
                (λ (apart : j ≡ i → ⊥). only_holder holds j apart (sym (left.0.phases.others j apart) ∙ h))
                (cases_eq j i)
