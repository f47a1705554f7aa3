-- How a replay keeps its counts, gap and passed from call to call. Assumes nothing.
use Rattle.std.specs.Prelude.{ℕ, ◌+◌, ◌-◌, ◌<◌, max, Bool, cond, List, replicate, Some, None, fold, Option, slice_index_or, slice_set}
use Rattle.lock.specs.declared.Kind.{Kind}
use Rattle.lock.specs.Calls.{Reply}
use Rattle.lock.specs.declared.Call.{Call}
use Rattle.lock.specs.Pasts.{is_wait, is_entry, is_refusal, work_of}
use Rattle.replay.specs.declared.report.Counts.{Counts}
use Rattle.replay.specs.declared.report.Entry.{Entry}
use Rattle.replay.specs.declared.report.Summary.{Summary}
use Rattle.replay.specs.declared.running.Stretch.{Stretch}
use Rattle.replay.specs.declared.running.Tally.{Tally}
use Rattle.replay.specs.declared.running.Waiting.{Waiting}
use Rattle.replay.specs.Reports.{is_bid_taken, is_leave_taken, is_move, is_out}

abbrev pub one_if : Bool → ℕ
one_if t = cond t 1 0

abbrev pub counted : Counts → Kind → Reply → Counts
counted c k r =
    record {
      bids = c.bids + one_if (is_bid_taken k r);
      leaves = c.leaves + one_if (is_leave_taken k r);
      waits = c.waits + one_if (is_wait r);
      moves = c.moves + one_if (is_move r);
      enters = c.enters + one_if (is_entry r);
      outs = c.outs + one_if (is_out r);
      refused = c.refused + one_if (is_refusal r);
    }

-- room for one more in each count
pub record Room (c : Counts) : Type 0 where
  pub bids : c.bids < 1000000
  pub leaves : c.leaves < 1000000
  pub waits : c.waits < 1000000
  pub moves : c.moves < 1000000
  pub enters : c.enters < 1000000
  pub outs : c.outs < 1000000
  pub refused : c.refused < 1000000

-- the length of the stretch that goes on, in calls that neither wait nor enter
abbrev pub length_after : ℕ → Reply → ℕ
length_after n r = cond (is_entry r) 0 (n + work_of r)

abbrev pub stretched : Stretch → Reply → Stretch
stretched s r = record { length = length_after s.length r; longest = max s.longest (length_after s.length r) }

-- the entries since a bid before which there were so many; none where there is no bid
abbrev pub since : ℕ → Option ℕ → ℕ
since n (Some before) = n - before
since n None = 0

abbrev pub or_start : Option ℕ → ℕ → ℕ
or_start (Some before) n = before
or_start None n = n

abbrev pub none_waiting : Waiting
none_waiting = record { entries = 0; before = replicate 64 None; most = 0 }

-- place p bids: it waits from now on, if it does not already
abbrev pub bidden : Waiting → ℕ → Waiting
bidden w p =
    record {
      entries = w.entries;
      before = slice_set w.before p (Some (or_start (slice_index_or w.before p None) w.entries));
      most = w.most;
    }

-- place p enters: it waits no longer
abbrev pub entered : Waiting → ℕ → Waiting
entered w p =
    record {
      entries = w.entries + 1;
      before = slice_set w.before p None;
      most = max w.most (since w.entries (slice_index_or w.before p None));
    }

abbrev pub waited : Waiting → Call → Reply → Waiting
waited w c r =
    cond (is_bid_taken c.kind r) (bidden w c.place) (cond (is_entry r) (entered w c.place) w)

-- the most entries that any place has waited through, those still waiting among them
abbrev pub most_waited : Waiting → ℕ
most_waited w = fold (λ n o. max n (since w.entries o)) w.most w.before

-- one call more
abbrev pub noted : Tally → Call → Reply → Tally
noted t c r =
    record {
      calls = t.calls + 1;
      counts = counted t.counts c.kind r;
      stretch = stretched t.stretch r;
      waiting = waited t.waiting c r;
    }

-- room for one call more, at a place that a record may have
pub record Ready (t : Tally) (c : Call) : Type 0 where
  pub calls : t.calls < 1000000
  pub counts : Room t.counts
  pub stretch : t.stretch.length < 1000000
  pub entries : t.waiting.entries < 1000000
  pub placed : c.place < 64

abbrev pub summarized : Tally → Summary
summarized t = record { calls = t.calls; counts = t.counts; gap = t.stretch.longest; passed = most_waited t.waiting }

-- the log after one call more, the k-th, where there are so many entries before
abbrev pub log_after : List Entry → ℕ → ℕ → Call → Reply → List Entry
log_after log entries k c r = cond (is_entry r) (slice_set log entries (record { call = k; place = c.place })) log
