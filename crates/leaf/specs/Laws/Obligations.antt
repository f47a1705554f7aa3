-- What an algorithm over a board owes to be a lock. Definitions only; assumes nothing.
use Rattle.std.specs.Prelude.{◌≡◌, ℕ, ◌+◌, ◌<◌, ◌≤◌, cond, Some, None, Option, ◌==◌, ◌≢◌, slice_index}
use Rattle.lock.specs.declared.Phase.TheVariants.{Out, Bidding, Holding, Leaving}
use Rattle.lock.specs.declared.Answer.{Answer}
use Rattle.lock.specs.declared.Answer.TheVariants.{Waits, Moves, Enters, Out as Gone}
use Rattle.lock.specs.Meaning.{shut, open_after, Active}
use Rattle.leaf.specs.Boards.{Board, Action, Algorithm, total, mark_within, action, box_at, Blank}

-- the registers after a write, as a function of their numbers
abbrev pub stored : Option (ℕ × ℕ) → (ℕ → ℕ) → ℕ → ℕ
stored (Some w) f k = cond (k == w.0) w.1 (f k)
stored None f k = f k

abbrev pub register : {X : Type 0} → Board X → ℕ → ℕ
register b k = slice_index b.registers k

-- a register that is written is one of the algorithm's
abbrev pub Within : ℕ → Option (ℕ × ℕ) → Type 0
Within n (Some w) = w.0 < n
Within n None = Unit {0}

module _ {X : Type 0} (A : Algorithm X) where
  -- from b to b' place p got the record x, and the write w was made
  pub record Change (b : Board X) (p : ℕ) (x : X) (w : Option (ℕ × ℕ)) (b' : Board X) : Type 0 where
    pub own : box_at A b' p ≡ x
    pub others : (q : ℕ) → (q ≢ p) → box_at A b' q ≡ box_at A b q
    pub registers : (k : ℕ) → register b' k ≡ stored w (register b) k

  -- an action fits the phase of the box that does it, and costs what its answer says
  abbrev pub Fitting : ℕ → X → Answer → X → Option (ℕ × ℕ) → Type 0
  Fitting p x Waits y w = (A.phase x ≡ Bidding) × (A.phase y ≡ Bidding) × (w ≡ None) × (A.left p y ≡ A.left p x)
  Fitting p x Moves y w = (A.phase y ≡ A.phase x) × (A.left p y < A.left p x)
  Fitting p x Enters y w = (A.phase x ≡ Bidding) × (A.phase y ≡ Holding)
  Fitting p x Gone y w = (A.phase x ≡ Leaving) × (A.phase y ≡ Out) × (A.left p y < A.left p x)

  abbrev pub acting : Board X → ℕ → Action X
  acting b p = action A b.registers p (box_at A b p)

  pub record Correct (Sound : Board X → Type 0) : Type 0 where
    pub some_place : 1 ≤ A.places
    pub few_places : A.places ≤ 64
    pub few_registers : A.register_count ≤ 4096
    pub out_phase : A.phase A.out ≡ Out
    pub bidding_phase : A.phase A.bidding ≡ Bidding
    pub leaving_phase : A.phase A.leaving ≡ Leaving
    pub bid_costs : (p : ℕ) (x : X) → A.phase x ≡ Out → A.left p A.bidding < A.left p x
    pub leave_costs : (p : ℕ) (x : X) → A.phase x ≡ Holding → A.left p A.leaving < A.left p x
    pub blank_sound : (b : Board X) → Blank A b → Sound b
    pub fitting : (b : Board X) (p : ℕ) → Sound b → p < A.places → Active (A.phase (box_at A b p)) → Fitting p (box_at A b p) (acting b p).answer (acting b p).next (acting b p).writes
    pub within : (b : Board X) (p : ℕ) → Sound b → p < A.places → Active (A.phase (box_at A b p)) → Within A.register_count (acting b p).writes
    pub after_bid : (b b' : Board X) (p : ℕ) → Sound b → p < A.places → A.phase (box_at A b p) ≡ Out → Change b p A.bidding None b' → b'.bids ≡ b.bids + 1 → Sound b'
    pub after_leave : (b b' : Board X) (p : ℕ) → Sound b → p < A.places → A.phase (box_at A b p) ≡ Holding → Change b p A.leaving None b' → b'.bids ≡ b.bids → Sound b'
    pub after_step : (b b' : Board X) (p : ℕ) → Sound b → p < A.places → Active (A.phase (box_at A b p)) → Change b p (acting b p).next (acting b p).writes b' → b'.bids ≡ b.bids → Sound b'
    pub one_holder : (b : Board X) (p q : ℕ) → Sound b → p < A.places → q < A.places → A.phase (box_at A b p) ≡ Holding → A.phase (box_at A b q) ≡ Holding → p ≡ q
    pub within_limit : (b : Board X) → Sound b → total (λ p. A.left p (box_at A b p)) A.places ≤ A.call_limit
    -- a shut place stays shut when it waits
    pub shut_stays : (b : Board X) (p : ℕ) → Sound b → p < A.places → (acting b p).answer ≡ Waits → mark_within A A.wait_limit b.registers p (box_at A b p) ≡ shut → mark_within A A.wait_limit b.registers p (acting b p).next ≡ shut
    pub some_open : (b : Board X) → Sound b → ((p : ℕ) → p < A.places → A.phase (box_at A b p) ≢ Holding) → (p : ℕ) → p < A.places → Active (A.phase (box_at A b p)) → (q d : ℕ) × (q < A.places) × Active (A.phase (box_at A b q)) × (mark_within A A.wait_limit b.registers q (box_at A b q) ≡ open_after d)
