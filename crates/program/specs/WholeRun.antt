-- What the replay of the two boxes' run reports. Assumes nothing.
use Rattle.std.specs.Prelude.{List, ◌∷◌, replicate}
use Rattle.replay.specs.declared.report.Entry.{Entry}
use Rattle.replay.specs.declared.report.Summary.{Summary}

abbrev pub whole_run_summary : Summary
whole_run_summary =
    record {
      calls = 11;
      counts = record { bids = 2; leaves = 1; waits = 1; moves = 4; enters = 2; outs = 1; refused = 0 };
      gap = 6;
      passed = 1;
    }

abbrev pub whole_run_log : List Entry
whole_run_log = record { call = 7; place = 0 } ∷ (record { call = 10; place = 1 } ∷ replicate 9 (record { call = 0; place = 0 }))
