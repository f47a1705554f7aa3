-- What holds while the calls of a record are made: a past, and all that is kept of it. Assumes nothing.
use Rattle.std.proofs.Common.{◌≡◌, ℕ, suc, ◌+◌, ◌<◌, ◌≤◌, Bool, List, [], ◌∷◌, ◌++◌, length, take, sym, drop, refl, ap, ◌∙◌, subst, length-append, append_assoc, append-nil, arith}
use Rattle.std.proofs.lemmas.List.{take_at, length_push}
use Rattle.std.specs.List.{AllByRecursion}
use Rattle.lock.specs.declared.Call.{Call}
use Rattle.lock.specs.Calls.{Reply}
use Rattle.lock.specs.Meaning.{Form}
use Rattle.lock.specs.Pasts.{Event, Run, Past, Economy, is_entry, work, stretches}
use Rattle.record.specs.declared.reader.Reader.{Reader}
use Rattle.record.specs.Layout.{calls_of, calls_in, places_in}
use Rattle.record.specs.Readers.{still_to_come}
use Rattle.replay.specs.declared.report.Entry.{Entry}
use Rattle.replay.specs.declared.report.Summary.{Summary}
use Rattle.replay.specs.declared.running.Tally.{Tally}
use Rattle.replay.specs.Replays.{Replayed, calls_made}
use Rattle.replay.specs.Reports.{count, counts_of, most_work, gap, summary_of, entries, logged}
use Rattle.replay.specs.Running.{noted, Ready, Room, log_after, summarized}
use Rattle.replay.proofs.Counting.{counts_more, count_le}
use Rattle.replay.proofs.Gaps.{stretch_of, stretch_more, length_bounded}
use Rattle.replay.proofs.Logs.{entries_counted, logged_more}
use Rattle.replay.proofs.Overtakes.{waiting_of, Placed, entries_bounded, passed_is}

-- what is kept after a past
abbrev pub tally_of : List Event → Tally
tally_of es = record { calls = length es; counts = counts_of es; stretch = stretch_of es; waiting = waiting_of es }

length_one_more : (es : List Event) → length es + 1 ≡ suc (length es)
length_one_more es = omega arith

tally_more : (e : Event) (es : List Event) → noted (tally_of es) e.call e.reply ≡ tally_of (e ∷ es)
tally_more e es = λ i. record { calls = length_one_more es i; counts = counts_more e es i; stretch = stretch_more e es i; waiting = waiting_of (e ∷ es) }

below : (test : Event → Bool) (es : List Event) → length es < 1000000 → count test es < 1000000
below test es few = omega (arith, count_le test es)

room : (es : List Event) → length es < 1000000 → Room (counts_of es)
room es few =
    record {
      bids = below _ es few;
      leaves = below _ es few;
      waits = below _ es few;
      moves = below _ es few;
      enters = below _ es few;
      outs = below _ es few;
      refused = below _ es few;
    }

-- what holds of each call of a list holds of one within it
placed_within : (cs : List Call) (c : Call) (left : List Call) → AllByRecursion (λ x. x.place < 64) (cs ++ (c ∷ left)) → c.place < 64
placed_within [] c left h = h.0
placed_within (d ∷ cs) c left h = placed_within cs c left h.1

-- a gap within each stretch's limit
gap_within : (M : ℕ) (ss : List (List Event)) → AllByRecursion (λ stretch. work stretch ≤ M) ss → most_work ss ≤ M
gap_within M [] h = omega arith
gap_within M (s ∷ ss) h = omega (arith, h.0, gap_within M ss h.1)

-- there are as many calls made as events
length-calls_made : (es : List Event) → length (calls_made es) ≡ length es
length-calls_made [] = refl
length-calls_made (e ∷ es) = omega (arith, length_push (calls_made es) e.call, length-calls_made es)

-- what holds of the calls of a record, with so many slots for their entries
pub record Listed (calls : List Call) (slots : ℕ) : Type 0 where
  pub few : length calls ≤ 20000
  pub placed : AllByRecursion (λ c. c.place < 64) calls
  pub slotted : length calls ≤ slots

-- at its start a reader has all calls of its record to come
pub all_to_come : (r : Reader) → r.cursor ≡ 16 → still_to_come r ≡ calls_in r.bytes.now
all_to_come r start = ap (λ (k : ℕ). calls_of (drop k r.bytes.now)) start

pub listed : (r : Reader) (slots : ℕ) → r.cursor ≡ 16 → r.header.calls ≤ slots → Listed (still_to_come r) slots
listed r slots start room =
    subst (λ (cs : List Call). Listed cs slots) (sym (all_to_come r start))
    (record {
      few = omega (arith, r.sound.counted, r.sound.few_calls);
      placed = placed_lower (calls_in r.bytes.now) (places_in r.bytes.now) r.sound.few_places r.sound.placed;
      slotted = omega (arith, r.sound.counted, r.counts.1, room);
    })
  where
    placed_lower : (cs : List Call) (n : ℕ) → n ≤ 64 → AllByRecursion (λ c. c.place < n) cs → AllByRecursion (λ c. c.place < 64) cs
    placed_lower [] n few h = tt
    placed_lower (c ∷ cs) n few h = (omega (arith, few, h.0), placed_lower cs n few h.1)

module _ {L : Type 0} (F : Form L) where
  -- the calls of a list are made from the lock s on, and some of them are left
  pub record SoFar (s t : L) (calls left : List Call) (log₀ log : List Entry) (tally : Tally) : Type 0 where
    pub events : List Event
    pub run : Run F s events t
    pub order : calls_made events ++ left ≡ calls
    pub placed : Placed events
    pub tally_is : tally ≡ tally_of events
    pub log_is : log ≡ logged events log₀

  module _ (s : L) (calls : List Call) (log₀ : List Entry) (listed : Listed calls (length log₀)) where
    module _ (t : L) (c : Call) (now left : List Call) (next-call : now ≡ c ∷ left) (log : List Entry) (tally : Tally) (so_far : SoFar s t calls now log₀ log tally) where
      order : calls_made so_far.events ++ (c ∷ left) ≡ calls
      order = ap (λ (l : List Call). calls_made so_far.events ++ l) (sym next-call) ∙ so_far.order

      not_all : length so_far.events < length calls
      not_all = omega (arith, ap length order, length-append (calls_made so_far.events) (c ∷ left), length-calls_made so_far.events)

      few : length so_far.events < 1000000
      few = omega (arith, not_all, listed.few)

      pub call_placed : c.place < 64
      call_placed = placed_within (calls_made so_far.events) c left (subst (AllByRecursion (λ x. x.place < 64)) (sym order) listed.placed)

      enters_number : tally.counts.enters ≡ length (entries so_far.events)
      enters_number = ap (λ (x : Tally). x.counts.enters) so_far.tally_is ∙ sym (entries_counted so_far.events)

      pub enters_within : tally.counts.enters < length log₀
      enters_within = omega (arith, enters_number, entries_counted so_far.events, count_le (λ e. is_entry e.reply) so_far.events, not_all, listed.slotted)

      pub ready : Ready tally c
      ready =
          subst (λ (x : Tally). Ready x c) (sym so_far.tally_is)
          (record {
            calls = few;
            counts = room so_far.events few;
            stretch = omega (arith, length_bounded so_far.events, few);
            entries = omega (arith, entries_bounded so_far.events, few);
            placed = call_placed;
          })

      pub one_more : (u : L) (reply : Reply) (log' : List Entry) (tally' : Tally) → F.takes t c reply u → tally' ≡ noted tally c reply → log' ≡ log_after log tally.counts.enters tally.calls c reply → SoFar s u calls left log₀ log' tally'
      one_more u reply log' tally' took counted logs =
          let e : Event = record { call = c; reply = reply } in
          let calls_are : tally.calls ≡ length so_far.events = ap (λ (x : Tally). x.calls) so_far.tally_is in
          record {
            events = e ∷ so_far.events;
            run = (t, so_far.run, took);
            order = append_assoc (calls_made so_far.events) (c ∷ []) left ∙ order;
            placed = (call_placed, so_far.placed);
            tally_is = counted ∙ ap (λ (x : Tally). noted x c reply) so_far.tally_is ∙ tally_more e so_far.events;
            log_is = logs ∙ ap (λ (x : List Entry). log_after x tally.counts.enters tally.calls c reply) so_far.log_is
                ∙ ap (λ (k : ℕ). log_after (logged so_far.events log₀) tally.counts.enters k c reply) calls_are
                ∙ logged_more e so_far.events log₀ tally.counts.enters enters_number enters_within;
          }

    -- the calls of a whole record make the past that is reported
    pub all_made : (t : L) (now : List Call) (log : List Entry) (tally : Tally) → now ≡ [] → SoFar s t calls now log₀ log tally → (lock : L) → s ≡ F.made lock → Economy F → (bs : List ℕ) → calls ≡ calls_in bs → (summary : Summary) → summary ≡ summarized tally → Replayed F lock t bs log₀ log summary
    all_made t now log tally none so_far lock is economy bs all summary sums =
        let past : Past F lock so_far.events t = subst (λ (x : L). Run F x so_far.events t) is so_far.run in
        let made : calls_made so_far.events ≡ calls = sym (append-nil (calls_made so_far.events)) ∙ ap (λ (l : List Call). calls_made so_far.events ++ l) (sym none) ∙ so_far.order in
        let report : summary ≡ summary_of so_far.events = sums ∙ ap summarized so_far.tally_is ∙ (λ i. record { calls = length so_far.events; counts = counts_of so_far.events; gap = gap so_far.events; passed = passed_is so_far.events so_far.placed i }) in
        let enters : summary.counts.enters ≡ length (entries so_far.events) = ap (λ (x : Summary). x.counts.enters) report ∙ sym (entries_counted so_far.events) in
        let gap_is : summary.gap ≡ gap so_far.events = ap (λ (x : Summary). x.gap) report in
        record {
          events = so_far.events;
          past = past;
          calls = made ∙ all;
          entries = so_far.log_is;
          room = omega (arith, enters, count_le (λ e. is_entry e.reply) so_far.events, entries_counted so_far.events, ap length made, length-calls_made so_far.events, listed.slotted);
          front = rw enters (ap (take (length (entries so_far.events))) so_far.log_is ∙ take_at (entries so_far.events) _ (length (entries so_far.events)) refl);
          report = report;
          within = omega (arith, gap_is, gap_within (F.meaning lock).call_limit (stretches so_far.events) (economy lock so_far.events t past));
        }
