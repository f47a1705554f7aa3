-- The counts after one call more are those of the longer past. Assumes nothing.
use Rattle.std.proofs.Common.{◌≡◌, ℕ, suc, ◌+◌, ◌≤◌, Bool, true, false, cond, List, [], ◌∷◌, length, add_comm, arith}
use Rattle.lock.specs.Pasts.{Event, is_wait, is_entry, is_refusal}
use Rattle.replay.specs.Reports.{is_bid_taken, is_leave_taken, is_move, is_out, count, counts_of}
use Rattle.replay.specs.Running.{one_if, counted}

pub counts_more : (e : Event) (es : List Event) → counted (counts_of es) e.call.kind e.reply ≡ counts_of (e ∷ es)
counts_more e es = λ i. record {
  bids = add_comm (counts_of es).bids (one_if (is_bid_taken e.call.kind e.reply)) i;
  leaves = add_comm (counts_of es).leaves (one_if (is_leave_taken e.call.kind e.reply)) i;
  waits = add_comm (counts_of es).waits (one_if (is_wait e.reply)) i;
  moves = add_comm (counts_of es).moves (one_if (is_move e.reply)) i;
  enters = add_comm (counts_of es).enters (one_if (is_entry e.reply)) i;
  outs = add_comm (counts_of es).outs (one_if (is_out e.reply)) i;
  refused = add_comm (counts_of es).refused (one_if (is_refusal e.reply)) i;
}

pub count_le : (test : Event → Bool) (es : List Event) → count test es ≤ length es
count_le test [] = omega arith
count_le test (e ∷ es) = one_more (test e) (count test es) (length es) (count_le test es)
  where
    one_more : (t : Bool) (n m : ℕ) → n ≤ m → cond t 1 0 + n ≤ suc m
    one_more true n m h = omega arith
    one_more false n m h = omega arith
