-- What a replay does: which records it refuses, and that it reports a past of the lock. Assumes nothing.
use Rattle.std.specs.Prelude.{◌≡◌, ℕ, ◌≤◌, cond, List, [], ◌∷◌, ◌++◌, length, take, Ok, Err, Result, ◌==◌, nat_lt}
use Rattle.lock.specs.declared.Call.{Call}
use Rattle.lock.specs.Meaning.{Form}
use Rattle.lock.specs.Pasts.{Event, Past}
use Rattle.record.specs.declared.faults.RecordFault.{RecordFault}
use Rattle.record.specs.Checks.{reading_test}
use Rattle.record.specs.Layout.{places_in, call_count_in, calls_in}
use Rattle.replay.specs.declared.faults.ReplayFault.{ReplayFault}
use Rattle.replay.specs.declared.faults.ReplayFault.TheVariants.{OfRecord, OtherPlaces, ShortLog}
use Rattle.replay.specs.declared.report.Entry.{Entry}
use Rattle.replay.specs.declared.report.Summary.{Summary}
use Rattle.replay.specs.Reports.{entries as entries_of, summary_of, logged}

-- a test that the record fails is the outcome; else what comes after it
abbrev pub carried : Result Unit RecordFault → Result Unit ReplayFault → Result Unit ReplayFault
carried (Err e) r = Err (OfRecord e)
carried (Ok u) r = r

-- the tests of a replay in their order: the record's own, the lock's places, the log's slots
abbrev pub replay_test : ℕ → ℕ → List ℕ → Result Unit ReplayFault
replay_test places slots bs =
    carried (reading_test bs) (cond (places == places_in bs) (cond (nat_lt slots (call_count_in bs)) (Err ShortLog) (Ok tt)) (Err OtherPlaces))

-- the calls of a past in the order in which they were made; its newest event stands first
abbrev pub calls_made : List Event → List Call
calls_made [] = []
calls_made (e ∷ es) = calls_made es ++ (e.call ∷ [])

module _ {L : Type 0} (F : Form L) where
  -- a record was replayed on the lock s and left t: there is a past of s that is made of exactly
  -- the record's calls in their order, ends in t, and is what log and summary report
  pub record Replayed (s t : L) (bs : List ℕ) (log log' : List Entry) (summary : Summary) : Type 0 where
    pub events : List Event
    pub past : Past F s events t
    pub calls : calls_made events ≡ calls_in bs
    pub entries : log' ≡ logged events log
    -- the entries are the front of the log, as many as are counted
    pub room : summary.counts.enters ≤ length log
    pub front : take summary.counts.enters log' ≡ entries_of events
    pub report : summary ≡ summary_of events
    -- the gap is within M
    pub within : summary.gap ≤ (F.meaning s).call_limit

  -- refused with the first test that fails, and then lock and log are what they were; or replayed
  abbrev pub Outcome : L → L → List ℕ → List Entry → List Entry → Result Summary ReplayFault → Type 0
  Outcome s t bs log log' (Err e) = (replay_test (F.meaning s).places (length log) bs ≡ Err e) × (t ≡ s) × (log' ≡ log)
  Outcome s t bs log log' (Ok summary) = (replay_test (F.meaning s).places (length log) bs ≡ Ok tt) × Replayed s t bs log log' summary
