-- What a replay reports of a past: the log, the counts, gap and passed. Assumes nothing.
use Rattle.std.specs.Prelude.{ℕ, ◌+◌, max, Bool, true, false, cond, List, [], ◌∷◌, ◌++◌, reverse, length, drop, ◌==◌, Some, None, Ok, Err}
use Rattle.lock.specs.declared.Answer.TheVariants.{Waits, Moves, Enters, Out as Gone}
use Rattle.lock.specs.declared.Kind.{Kind}
use Rattle.lock.specs.declared.Kind.TheVariants.{Bid, Step, Leave}
use Rattle.lock.specs.Calls.{Reply}
use Rattle.lock.specs.Pasts.{Event, is_wait, is_entry, is_refusal, work, stretches}
use Rattle.replay.specs.declared.report.Entry.{Entry}
use Rattle.replay.specs.declared.report.Counts.{Counts}
use Rattle.replay.specs.declared.report.Summary.{Summary}

abbrev pub is_bid_taken : Kind → Reply → Bool
is_bid_taken Bid (Ok None) = true
is_bid_taken Bid (Ok (Some a)) = false
is_bid_taken Bid (Err e) = false
is_bid_taken Step r = false
is_bid_taken Leave r = false

abbrev pub is_leave_taken : Kind → Reply → Bool
is_leave_taken Bid r = false
is_leave_taken Step r = false
is_leave_taken Leave (Ok None) = true
is_leave_taken Leave (Ok (Some a)) = false
is_leave_taken Leave (Err e) = false

abbrev pub is_move : Reply → Bool
is_move (Ok None) = false
is_move (Ok (Some Waits)) = false
is_move (Ok (Some Moves)) = true
is_move (Ok (Some Enters)) = false
is_move (Ok (Some Gone)) = false
is_move (Err e) = false

abbrev pub is_out : Reply → Bool
is_out (Ok None) = false
is_out (Ok (Some Waits)) = false
is_out (Ok (Some Moves)) = false
is_out (Ok (Some Enters)) = false
is_out (Ok (Some Gone)) = true
is_out (Err e) = false

-- how many events pass a test
abbrev pub count : (Event → Bool) → List Event → ℕ
count test [] = 0
count test (e ∷ es) = cond (test e) 1 0 + count test es

-- the most calls in one of these stretches that neither wait nor enter
abbrev pub most_work : List (List Event) → ℕ
most_work [] = 0
most_work (s ∷ ss) = max (work s) (most_work ss)

abbrev pub gap : List Event → ℕ
gap es = most_work (stretches es)

-- entries by others than place p, in these events with the oldest first, until p's own entry
abbrev pub overtaken : ℕ → List Event → ℕ
overtaken p [] = 0
overtaken p (e ∷ later) =
    cond (is_entry e.reply) (cond (e.call.place == p) 0 (1 + overtaken p later)) (overtaken p later)

-- the most entries by others between one accepted bid and that place's next entry, or the end;
-- the oldest event stands first
abbrev pub most_overtaken : List Event → ℕ
most_overtaken [] = 0
most_overtaken (e ∷ later) =
    max (cond (is_bid_taken e.call.kind e.reply) (overtaken e.call.place later) 0) (most_overtaken later)

abbrev pub passed : List Event → ℕ
passed es = most_overtaken (reverse es)

abbrev pub counts_of : List Event → Counts
counts_of es =
    record {
      bids = count (λ e. is_bid_taken e.call.kind e.reply) es;
      leaves = count (λ e. is_leave_taken e.call.kind e.reply) es;
      waits = count (λ e. is_wait e.reply) es;
      moves = count (λ e. is_move e.reply) es;
      enters = count (λ e. is_entry e.reply) es;
      outs = count (λ e. is_out e.reply) es;
      refused = count (λ e. is_refusal e.reply) es;
    }

-- what a replay returns of a past, which has the newest event first
abbrev pub summary_of : List Event → Summary
summary_of es = record { calls = length es; counts = counts_of es; gap = gap es; passed = passed es }

-- the entries of a past, the oldest first: the number of the call, counted from 0, and its place
abbrev pub entries : List Event → List Entry
entries [] = []
entries (e ∷ es) =
    cond (is_entry e.reply) (entries es ++ (record { call = length es; place = e.call.place } ∷ [])) (entries es)

-- a log after the entries were written from its start: later slots stay
abbrev pub logged : List Event → List Entry → List Entry
logged es log = entries es ++ drop (length (entries es)) log
