-- The entries that places wait through, kept from call to call, give the passed of the past. Assumes nothing.
use Rattle.std.proofs.Common.{◌≡◌, ℕ, zero, suc, ◌+◌, ◌-◌, ◌<◌, ◌≤◌, max, true, false, cond, ◌⊎◌, List, [], ◌∷◌, reverse, length, get_or, replicate, Some, None, fold, Option, sym, refl, ap, ◌∙◌, subst, inl, inr, ⊎_elim, arith, length-set}
use mathlib.Core.List.{reverse_aux}
use Rattle.std.proofs.lemmas.List.{get_or-set_same, get_or-set_other}
use Rattle.std.proofs.lemmas.Bool.{cases_Bool, cases_eq, eq-eqb, ne_eqb}
use Rattle.std.specs.List.{AllByRecursion}
use Rattle.lock.specs.declared.Kind.{Kind}
use Rattle.lock.specs.Calls.{Reply}
use Rattle.lock.specs.Pasts.{Event, is_entry}
use Rattle.replay.specs.declared.running.Waiting.{Waiting}
use Rattle.replay.specs.Reports.{is_bid_taken, overtaken, most_overtaken, passed}
use Rattle.replay.specs.Running.{since, or_start, none_waiting, bidden, entered, waited, most_waited}

-- the most of a list of bids is at least its start and each bid's entries, and no more than they need
module _ (n : ℕ) where
  abbrev most_of : ℕ → List (Option ℕ) → ℕ
  most_of m bids = fold (λ k o. max k (since n o)) m bids

  most_above_start : (bids : List (Option ℕ)) (m : ℕ) → m ≤ most_of m bids
  most_above_start [] m = omega arith
  most_above_start (o ∷ bids) m = omega (arith, most_above_start bids (max m (since n o)))

  most_above_each : (bids : List (Option ℕ)) (m p : ℕ) → since n (get_or bids p None) ≤ most_of m bids
  most_above_each [] m p = omega arith
  most_above_each (o ∷ bids) m zero = omega (arith, most_above_start bids (max m (since n o)))
  most_above_each (o ∷ bids) m (suc p) = most_above_each bids (max m (since n o)) p

  most_below : (bids : List (Option ℕ)) (m b : ℕ) → m ≤ b → ((p : ℕ) → since n (get_or bids p None) ≤ b) → most_of m bids ≤ b
  most_below [] m b h each = h
  most_below (o ∷ bids) m b h each = most_below bids (max m (since n o)) b (omega (arith, h, each 0)) (λ p. each (suc p))

-- the entries since a bid and then so many more
abbrev through : ℕ → Option ℕ → ℕ → ℕ
through n None more = 0
through n (Some before) more = (n - before) + more

abbrev slot : Waiting → ℕ → Option ℕ
slot w p = get_or w.before p None

-- what place p will have waited through at its next entry, or the end, if these events come next
abbrev pending : Waiting → ℕ → List Event → ℕ
pending w p later = through w.entries (slot w p) (overtaken p later)

-- no bid is younger than the entries so far
abbrev Bounded : ℕ → Option ℕ → Type 0
Bounded n None = Unit {0}
Bounded n (Some before) = before ≤ n

record Fair (w : Waiting) : Type 0 where
  long : 64 ≤ length w.before
  bounded : (p : ℕ) → Bounded w.entries (slot w p)

abbrev step : Waiting → Event → Waiting
step w e = waited w e.call e.reply

-- the three ways of a call: an accepted bid, an entry, or neither
data Way (w : Waiting) (e : Event) : Type 0 where
  bids : is_entry e.reply ≡ false → is_bid_taken e.call.kind e.reply ≡ true → step w e ≡ bidden w e.call.place → Way w e
  enters : is_entry e.reply ≡ true → is_bid_taken e.call.kind e.reply ≡ false → step w e ≡ entered w e.call.place → Way w e
  neither : is_entry e.reply ≡ false → is_bid_taken e.call.kind e.reply ≡ false → step w e ≡ w → Way w e

bid_is_no_entry : (k : Kind) (r : Reply) → is_bid_taken k r ≡ true → is_entry r ≡ false
bid_is_no_entry k r e = grind arith

way : (w : Waiting) (e : Event) → Way w e
way w e =
    ⊎_elim
    (λ (b : is_bid_taken e.call.kind e.reply ≡ true). bids (bid_is_no_entry e.call.kind e.reply b) b (rw b refl))
    (λ (b : is_bid_taken e.call.kind e.reply ≡ false).
    ⊎_elim
    (λ (t : is_entry e.reply ≡ true). enters t b (rw (b, t) refl))
    (λ (t : is_entry e.reply ≡ false). neither t b (rw (b, t) refl))
    (cases_Bool (is_entry e.reply)))
    (cases_Bool (is_bid_taken e.call.kind e.reply))

-- how one call changes what is kept, against what is still to come
record Kept (w w' : Waiting) (e : Event) (later : List Event) : Type 0 where
  fair : Fair w'
  most_up : w.most ≤ w'.most
  most_down : (b : ℕ) → w.most ≤ b → ((p : ℕ) → pending w p (e ∷ later) ≤ b) → w'.most ≤ b
  pending_up : (p : ℕ) → pending w p (e ∷ later) ≤ max w'.most (pending w' p later)
  pending_down : (p b : ℕ) → pending w p (e ∷ later) ≤ b → cond (is_bid_taken e.call.kind e.reply) (overtaken e.call.place later) 0 ≤ b → pending w' p later ≤ b
  bid_up : cond (is_bid_taken e.call.kind e.reply) (overtaken e.call.place later) 0 ≤ pending w' e.call.place later

module _ (w : Waiting) (e : Event) (later : List Event) (fair : Fair w) (placed : e.call.place < 64) where
  abbrev q : ℕ
  q = e.call.place

  within : q < length w.before
  within = omega (arith, fair.long, placed)

  neither_kept : is_entry e.reply ≡ false → is_bid_taken e.call.kind e.reply ≡ false → Kept w w e later
  neither_kept t b =
      record {
        fair = fair;
        most_up = omega arith;
        most_down = λ k h each. h;
        pending_up = λ p. rw t (omega arith);
        pending_down = λ p k h bid. rw t at h;
        bid_up = rw b (omega arith);
      }

  bid_slot : slot (bidden w q) q ≡ Some (or_start (slot w q) w.entries)
  bid_slot = get_or-set_same w.before q (Some (or_start (slot w q) w.entries)) None within

  bid_others : (p : ℕ) → (p ≡ q → ⊥) → slot (bidden w q) p ≡ slot w p
  bid_others p ne = get_or-set_other w.before q p (Some (or_start (slot w q) w.entries)) None ne

  bids_kept : is_entry e.reply ≡ false → is_bid_taken e.call.kind e.reply ≡ true → Kept w (bidden w q) e later
  bids_kept t b =
      record {
        fair = record { long = omega (arith, fair.long, length-set w.before q (Some (or_start (slot w q) w.entries))); bounded = bounded };
        most_up = omega arith;
        most_down = λ k h each. h;
        pending_up = λ p. rw t (up p (cases_eq p q));
        pending_down = λ p k h bid. down p k (rw t at h) (rw b at bid) (cases_eq p q);
        bid_up = rw (b, bid_slot) (starts (slot w q) w.entries (overtaken q later));
      }
    where
      starts : (o : Option ℕ) (n more : ℕ) → more ≤ through n (Some (or_start o n)) more
      starts o n more = grind arith

      grows : (o : Option ℕ) (n more : ℕ) → through n o more ≤ through n (Some (or_start o n)) more
      grows o n more = grind arith

      held : (o : Option ℕ) (n more k : ℕ) → through n o more ≤ k → more ≤ k → through n (Some (or_start o n)) more ≤ k
      held o n more k h l = grind arith

      aged : (o : Option ℕ) (n : ℕ) → Bounded n o → Bounded n (Some (or_start o n))
      aged None n h = omega arith
      aged (Some before) n h = h

      bounded : (p : ℕ) → Bounded w.entries (slot (bidden w q) p)
      bounded p =
          ⊎_elim
          (λ (same : p ≡ q). rw (same, bid_slot) (aged (slot w q) w.entries (fair.bounded q)))
          (λ (ne : p ≡ q → ⊥). let is = bid_others p ne in rw is (fair.bounded p))
          (cases_eq p q)

      up : (p : ℕ) → (p ≡ q) ⊎ (p ≡ q → ⊥) → through w.entries (slot w p) (overtaken p later) ≤ max w.most (pending (bidden w q) p later)
      up p (inl same) = rw (same, bid_slot) (omega (arith, grows (slot w q) w.entries (overtaken q later)))
      up p (inr ne) = let is = bid_others p ne in rw is (omega arith)

      down : (p k : ℕ) → through w.entries (slot w p) (overtaken p later) ≤ k → overtaken q later ≤ k → (p ≡ q) ⊎ (p ≡ q → ⊥) → pending (bidden w q) p later ≤ k
      down p k h bid (inl same) = rw (same, bid_slot) (held (slot w q) w.entries (overtaken q later) k (rw same at h) bid)
      down p k h bid (inr ne) = let is = bid_others p ne in rw is h

  entry_slot : slot (entered w q) q ≡ None
  entry_slot = get_or-set_same w.before q None None within

  entry_others : (p : ℕ) → (p ≡ q → ⊥) → slot (entered w q) p ≡ slot w p
  entry_others p ne = get_or-set_other w.before q p None None ne

  -- of the place that enters nothing more is counted, and of any other this entry is
  own_entry : is_entry e.reply ≡ true → overtaken q (e ∷ later) ≡ 0
  own_entry t = let same = eq-eqb q q refl in rw (t, same) refl

  other_entry : (p : ℕ) → is_entry e.reply ≡ true → (p ≡ q → ⊥) → overtaken p (e ∷ later) ≡ 1 + overtaken p later
  other_entry p t ne = let apart = ne_eqb q p (λ s. ne (sym s)) in rw (t, apart) refl

  enters_kept : is_entry e.reply ≡ true → is_bid_taken e.call.kind e.reply ≡ false → Kept w (entered w q) e later
  enters_kept t b =
      record {
        fair = record { long = omega (arith, fair.long, length-set w.before q None); bounded = bounded };
        most_up = omega arith;
        most_down = λ k h each. omega (arith, h, settled (slot w q) w.entries k (subst (λ (m : ℕ). through w.entries (slot w q) m ≤ k) (own_entry t) (each q)));
        pending_up = λ p. up p (cases_eq p q);
        pending_down = λ p k h bid. down p k h (cases_eq p q);
        bid_up = rw b (omega arith);
      }
    where
      settled : (o : Option ℕ) (n k : ℕ) → through n o 0 ≤ k → since n o ≤ k
      settled o n k h = grind arith

      settles : (o : Option ℕ) (n : ℕ) → through n o 0 ≤ since n o
      settles o n = grind arith

      later_one : (o : Option ℕ) (n more : ℕ) → Bounded n o → through (n + 1) o more ≡ through n o (1 + more)
      later_one None n more h = refl
      later_one (Some before) n more h = omega arith

      older : (o : Option ℕ) (n : ℕ) → Bounded n o → Bounded (n + 1) o
      older None n h = tt
      older (Some before) n h = omega arith

      bounded : (p : ℕ) → Bounded (w.entries + 1) (slot (entered w q) p)
      bounded p =
          ⊎_elim
          (λ (same : p ≡ q). rw (same, entry_slot) tt)
          (λ (ne : p ≡ q → ⊥). let is = entry_others p ne in rw is (older (slot w p) w.entries (fair.bounded p)))
          (cases_eq p q)

      up : (p : ℕ) → (p ≡ q) ⊎ (p ≡ q → ⊥) → pending w p (e ∷ later) ≤ max (max w.most (since w.entries (slot w q))) (pending (entered w q) p later)
      up p (inl same) =
          let none : pending w q (e ∷ later) ≡ through w.entries (slot w q) 0 = ap (through w.entries (slot w q)) (own_entry t) in
          let here : pending w p (e ∷ later) ≡ pending w q (e ∷ later) = ap (λ (x : ℕ). pending w x (e ∷ later)) same in
          omega (arith, settles (slot w q) w.entries, none, here)
      up p (inr ne) =
          let is = entry_others p ne in
          let more = ap (through w.entries (slot w p)) (other_entry p t ne) in
          rw is (omega (arith, more, later_one (slot w p) w.entries (overtaken p later) (fair.bounded p)))

      down : (p k : ℕ) → pending w p (e ∷ later) ≤ k → (p ≡ q) ⊎ (p ≡ q → ⊥) → pending (entered w q) p later ≤ k
      down p k h (inl same) = rw (same, entry_slot) (omega arith)
      down p k h (inr ne) =
          let is = entry_others p ne in
          let more = ap (through w.entries (slot w p)) (other_entry p t ne) in
          rw is (omega (arith, h, more, later_one (slot w p) w.entries (overtaken p later) (fair.bounded p)))

  step_kept : Way w e → Kept w (step w e) e later
  step_kept (bids t b is) = subst (λ (x : Waiting). Kept w x e later) (sym is) (bids_kept t b)
  step_kept (enters t b is) = subst (λ (x : Waiting). Kept w x e later) (sym is) (enters_kept t b)
  step_kept (neither t b is) = subst (λ (x : Waiting). Kept w x e later) (sym is) (neither_kept t b)

abbrev pub Placed : List Event → Type 0
Placed es = AllByRecursion (λ e. e.call.place < 64) es

no_more : (n : ℕ) (o : Option ℕ) → through n o 0 ≡ since n o
no_more n o = grind arith

-- what is kept after these events, the oldest first, is at most what was kept and what they bring
kept_below : (xs : List Event) (w : Waiting) (b : ℕ) → Fair w → Placed xs → w.most ≤ b → ((p : ℕ) → pending w p xs ≤ b) → most_overtaken xs ≤ b → most_waited (fold step w xs) ≤ b
kept_below [] w b fair placed most each over =
    most_below w.entries w.before w.most b most (λ p. omega (arith, each p, no_more w.entries (slot w p)))
kept_below (e ∷ later) w b fair placed most each over =
    let kept = step_kept w e later fair placed.0 (way w e) in
    kept_below later (step w e) b kept.fair placed.1
    (kept.most_down b most each)
    (λ p. kept.pending_down p b (each p) (omega (arith, over)))
    (omega (arith, over))

-- and at least
record Above (w : Waiting) (xs : List Event) (n : ℕ) : Type 0 where
  most : w.most ≤ n
  pendings : (p : ℕ) → pending w p xs ≤ n
  overs : most_overtaken xs ≤ n

kept_above : (xs : List Event) (w : Waiting) → Fair w → Placed xs → Above w xs (most_waited (fold step w xs))
kept_above [] w fair placed =
    record {
      most = most_above_start w.entries w.before w.most;
      pendings = λ p. omega (arith, most_above_each w.entries w.before w.most p, no_more w.entries (slot w p));
      overs = omega arith;
    }
kept_above (e ∷ later) w fair placed =
    let kept = step_kept w e later fair placed.0 (way w e) in
    let rest = kept_above later (step w e) kept.fair placed.1 in
    record {
      most = omega (arith, kept.most_up, rest.most);
      pendings = λ p. omega (arith, kept.pending_up p, rest.most, rest.pendings p);
      overs = omega (arith, kept.bid_up, rest.pendings e.call.place, rest.overs);
    }

empty_slot : (n p : ℕ) → get_or (replicate {A = Option ℕ} n None) p None ≡ None
empty_slot zero p = refl
empty_slot (suc n) zero = refl
empty_slot (suc n) (suc p) = empty_slot n p

none_fair : Fair none_waiting
none_fair = record { long = omega arith; bounded = λ p. let is = empty_slot 64 p in rw is tt }

none_pending : (p : ℕ) (xs : List Event) → pending none_waiting p xs ≡ 0
none_pending p xs = let is = empty_slot 64 p in rw is refl

most_is : (xs : List Event) → Placed xs → most_waited (fold step none_waiting xs) ≡ most_overtaken xs
most_is xs placed =
    let below = kept_below xs none_waiting (most_overtaken xs) none_fair placed (omega arith) (λ p. omega (arith, none_pending p xs)) (omega arith) in
    let above = (kept_above xs none_waiting none_fair placed).overs in
    omega arith

-- what is kept after a past
abbrev pub waiting_of : List Event → Waiting
waiting_of [] = none_waiting
waiting_of (e ∷ es) = step (waiting_of es) e

from_oldest : (es later : List Event) → fold step none_waiting (reverse_aux es later) ≡ fold step (waiting_of es) later
from_oldest [] later = refl
from_oldest (e ∷ es) later = from_oldest es (e ∷ later)

placed_oldest : (es later : List Event) → Placed es → Placed later → Placed (reverse_aux es later)
placed_oldest [] later h k = k
placed_oldest (e ∷ es) later h k = placed_oldest es (e ∷ later) h.1 (h.0, k)

pub passed_is : (es : List Event) → Placed es → most_waited (waiting_of es) ≡ passed es
passed_is es placed = ap most_waited (sym (from_oldest es [])) ∙ most_is (reverse es) (placed_oldest es [] placed tt)

one_more_entry : (w : Waiting) (e : Event) → Way w e → (step w e).entries ≤ w.entries + 1
one_more_entry w e (bids t b is) = omega (arith, ap (λ (x : Waiting). x.entries) is)
one_more_entry w e (enters t b is) = omega (arith, ap (λ (x : Waiting). x.entries) is)
one_more_entry w e (neither t b is) = omega (arith, ap (λ (x : Waiting). x.entries) is)

pub entries_bounded : (es : List Event) → (waiting_of es).entries ≤ length es
entries_bounded [] = omega arith
entries_bounded (e ∷ es) = omega (arith, one_more_entry (waiting_of es) e (way (waiting_of es) e), entries_bounded es)
