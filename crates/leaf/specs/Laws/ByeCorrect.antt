-- The bye's lines meet the obligations of a lock, so that the bye keeps the meaning of one. Assumes nothing.
use Rattle.std.specs.Prelude.{◌≡◌, ℕ, ◌+◌, ◌<◌, ◌≤◌, ◌≢◌, slice_index_or, refl}
use Rattle.std.proofs.Common.{arith}
use Rattle.lock.specs.declared.Phase.{Phase}
use Rattle.lock.specs.declared.Phase.TheVariants.{Out, Bidding, Holding, Leaving}
use Rattle.lock.specs.declared.Answer.TheVariants.{Waits}
use Rattle.lock.specs.Meaning.{Mark, shut, open_after, Active, Keeps}
use Rattle.leaf.specs.Boards.{mark_by, box_at}
use Rattle.leaf.specs.ByeLines.{bye, bye_acts, bye_left, bye_board, bye_form, bye_made, ByeSound, NoMore}
use Rattle.leaf.specs.Laws.Obligations.{Within, Fitting, Correct}
use Rattle.leaf.specs.Laws.BoardKeeps.{keeps_by_board, blank_made}

line_fits : (p : ℕ) (f : Phase) → Active f → Fitting bye p f (bye_acts f).answer (bye_acts f).next (bye_acts f).writes
line_fits p Out active = absurd active
line_fits p Bidding active = (refl, refl)
line_fits p Holding active = absurd active
line_fits p Leaving active = (refl, refl, omega arith)

writes_nothing : (f : Phase) → Within 0 (bye_acts f).writes
writes_nothing Out = tt
writes_nothing Bidding = tt
writes_nothing Holding = tt
writes_nothing Leaving = tt

never_waits : (f : Phase) → (bye_acts f).answer ≢ Waits
never_waits f e = grind arith

always_open : (f : Phase) (m : Mark) → mark_by (bye_acts f).answer m ≡ open_after 0
always_open f m = grind arith

pub bye_correct : Correct bye NoMore
bye_correct =
    record {
      some_place = omega arith;
      few_places = omega arith;
      few_registers = omega arith;
      out_phase = refl;
      bidding_phase = refl;
      leaving_phase = refl;
      bid_costs = λ p f e. bid_cost f e;
      leave_costs = λ p f e. leave_cost f e;
      blank_sound = λ b blank. tt;
      fitting = λ b p h placed active. line_fits p (box_at bye b p) active;
      within = λ b p h placed active. writes_nothing (box_at bye b p);
      after_bid = λ b b' p h placed e change bids. tt;
      after_leave = λ b b' p h placed e change bids. tt;
      after_step = λ b b' p h placed active change bids. tt;
      one_holder = λ b p q h lp lq hp hq. omega arith;
      within_limit = λ b h. limit (box_at bye b 0);
      shut_stays = λ b p h placed is e. absurd (never_waits (box_at bye b p) is);
      some_open = λ b h free p placed active. (p, 0, placed, active, always_open (box_at bye b p) shut);
    }
  where
    bid_cost : (f : Phase) → f ≡ Out → bye_left Bidding < bye_left f
    bid_cost f e = grind arith

    leave_cost : (f : Phase) → f ≡ Holding → bye_left Leaving < bye_left f
    leave_cost f e = grind arith

    limit : (f : Phase) → bye_left f + 0 ≤ 3
    limit f = grind arith

pub bye_keeps : Keeps bye_form ByeSound
bye_keeps =
    keeps_by_board bye NoMore bye_correct bye_board
    (λ b. record { phase = slice_index_or b.boxes 0 Out; bids = b.bids })
    (λ s. refl) (λ s. bye_made) (λ s. blank_made bye 1 0 (omega arith) (omega arith))
