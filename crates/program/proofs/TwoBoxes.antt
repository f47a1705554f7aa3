-- The replay of the two boxes' run, computed. Assumes nothing.
use Rattle.std.proofs.Common.{◌≡◌, ℕ, List, [], ◌∷◌, reverse, replicate, Ok, Err, Result, ap, ◌∙◌, arith}
use Rattle.lock.specs.Pasts.{Event}
use Rattle.leaf.specs.declared.peterson.Peterson.{Peterson}
use Rattle.lock.proofs.Runs.{events_by, determined}
use Rattle.leaf.specs.PetersonLines.{peterson_made, peterson_form}
use Rattle.leaf.proofs.LeafRuns.{peterson_run, peterson_runs}
use Rattle.record.specs.Layout.{calls_in}
use Rattle.replay.specs.declared.faults.ReplayFault.{ReplayFault}
use Rattle.replay.specs.declared.report.Entry.{Entry}
use Rattle.replay.specs.declared.report.Summary.{Summary}
use Rattle.replay.specs.Replays.{Outcome}
use Rattle.replay.specs.Reports.{summary_of, logged}
use Rattle.program.specs.WholeRun.{whole_run_summary, whole_run_log}
use Rattle.program.proofs.TurnedRound.{turned_round}

abbrev pub bytes : List ℕ
bytes = 2 ∷ (0 ∷ (0 ∷ (0 ∷ (11 ∷ (0 ∷ (0 ∷ (0 ∷ (16 ∷ (0 ∷ (0 ∷ (0 ∷ (38 ∷ (0 ∷ (0 ∷ (0 ∷ (1 ∷ (0 ∷ (1 ∷ (1 ∷ (2 ∷ (0 ∷ (2 ∷ (1 ∷ (2 ∷ (0 ∷ (2 ∷ (1 ∷ (2 ∷ (1 ∷ (2 ∷ (0 ∷ (3 ∷ (0 ∷ (2 ∷ (0 ∷ (2 ∷ (1 ∷ [])))))))))))))))))))))))))))))))))))))

abbrev empty_log : List Entry
empty_log = replicate 11 (record { call = 0; place = 0 })

abbrev events : List Event
events = events_by peterson_run peterson_made (reverse (calls_in bytes))

pub two_boxes : (s t : Peterson) (log : List Entry) (r : Result Summary ReplayFault) → Outcome peterson_form s t bytes empty_log log r → (r ≡ Ok whole_run_summary) × (log ≡ whole_run_log)
two_boxes s t log (Err e) o = absurd (let z : ◌≡◌ {A = ℕ} 0 1 = cc o.0 in omega arith)
two_boxes s t log (Ok summary) o =
    let past = o.1 in
    let made = (determined peterson_run peterson_made peterson_form peterson_runs past.events t past.past).0 in
    let are : past.events ≡ events = made ∙ ap (events_by peterson_run peterson_made) (turned_round past.events (calls_in bytes) past.calls) in
    (ap Ok (past.report ∙ ap summary_of are), past.entries ∙ ap (λ (es : List Event). logged es empty_log) are)
