-- What holds of a lock after every past: one holder, progress, economy. Assumes nothing.
-- AllByRecursion P xs, of the library, says that P holds of each element of xs.
use Rattle.std.specs.Prelude.{◌≡◌, ℕ, ◌+◌, ◌<◌, ◌≤◌, Bool, true, false, cond, ◌||◌, List, [], ◌∷◌, Some, None, ◌==◌, ◌≢◌, nat_lt, Ok, Err}
use Rattle.std.specs.List.{AllByRecursion}
use Rattle.lock.specs.declared.Phase.{Phase}
use Rattle.lock.specs.declared.Phase.TheVariants.{Out, Bidding, Holding, Leaving}
use Rattle.lock.specs.declared.Answer.TheVariants.{Waits, Moves, Enters, Out as Gone}
use Rattle.lock.specs.declared.Kind.{Kind}
use Rattle.lock.specs.declared.Kind.TheVariants.{Bid, Step, Leave}
use Rattle.lock.specs.declared.Call.{Call}
use Rattle.lock.specs.Calls.{Reply}
use Rattle.lock.specs.Meaning.{Form, Active, SameSize, phase_answer}

-- a call and what it returned
pub record Event : Type 0 where
  pub call : Call
  pub reply : Reply

abbrev pub is_wait : Reply → Bool
is_wait (Ok None) = false
is_wait (Ok (Some Waits)) = true
is_wait (Ok (Some Moves)) = false
is_wait (Ok (Some Enters)) = false
is_wait (Ok (Some Gone)) = false
is_wait (Err e) = false

abbrev pub is_entry : Reply → Bool
is_entry (Ok None) = false
is_entry (Ok (Some Waits)) = false
is_entry (Ok (Some Moves)) = false
is_entry (Ok (Some Enters)) = true
is_entry (Ok (Some Gone)) = false
is_entry (Err e) = false

abbrev pub is_refusal : Reply → Bool
is_refusal (Ok None) = false
is_refusal (Ok (Some a)) = false
is_refusal (Err e) = true

-- the phase that a call gives its place by what it returned; f is the phase before
abbrev pub phase_after : Kind → Reply → Phase → Phase
phase_after Bid (Ok None) f = Bidding
phase_after Bid (Ok (Some a)) f = f
phase_after Bid (Err e) f = f
phase_after Step (Ok None) f = f
phase_after Step (Ok (Some Waits)) f = f
phase_after Step (Ok (Some Moves)) f = f
phase_after Step (Ok (Some Enters)) f = Holding
phase_after Step (Ok (Some Gone)) f = Out
phase_after Step (Err e) f = f
phase_after Leave (Ok None) f = Leaving
phase_after Leave (Ok (Some a)) f = f
phase_after Leave (Err e) f = f

-- the phase of place p that derives from what the calls returned; the newest event stands first
abbrev pub phase_from : List Event → ℕ → Phase
phase_from [] p = Out
phase_from (e ∷ es) p =
    cond (p == e.call.place) (phase_after e.call.kind e.reply (phase_from es p)) (phase_from es p)

-- how often place p waits
abbrev pub waits : ℕ → List Event → ℕ
waits p [] = 0
waits p (e ∷ es) = cond (p == e.call.place) (cond (is_wait e.reply) 1 0) 0 + waits p es

-- 1 for an accepted call that neither waits nor enters
abbrev pub work_of : Reply → ℕ
work_of r = cond (is_refusal r || is_wait r || is_entry r) 0 1

-- how many accepted calls neither wait nor enter
abbrev pub work : List Event → ℕ
work [] = 0
work (e ∷ es) = work_of e.reply + work es

abbrev pub onto_first : Event → List (List Event) → List (List Event)
onto_first e [] = (e ∷ []) ∷ []
onto_first e (s ∷ ss) = (e ∷ s) ∷ ss

-- the stretches of a past, the newest first: the calls before the first entry, between an entry
-- and the next, and after the last
abbrev pub stretches : List Event → List (List Event)
stretches [] = [] ∷ []
stretches (e ∷ es) = cond (is_entry e.reply) ([] ∷ stretches es) (onto_first e (stretches es))

module _ {L : Type 0} (F : Form L) where
  -- calls made one after the other from s on, each on what the last one left, down to t
  abbrev pub Run : L → List Event → L → Type 0
  Run s [] t = t ≡ s
  Run s (e ∷ es) t = (u : L) × Run s es u × F.takes u e.call e.reply t

  -- the making of s and then any calls
  abbrev pub Past : L → List Event → L → Type 0
  Past s es t = Run (F.made s) es t

  -- n, S and M are fixed from the making
  abbrev pub Fixed : Type 0
  Fixed = (s : L) (es : List Event) (t : L) → Past s es t → SameSize (F.meaning s) (F.meaning t)

  -- the answers on phases are those that derive from the past
  abbrev pub PhasesDerive : Type 0
  PhasesDerive = (s : L) (es : List Event) (t : L) → Past s es t → (p : ℕ) → phase_answer (F.meaning t) p ≡ cond (nat_lt p (F.meaning s).places) (Some (phase_from es p)) None

  -- the answer on who holds names the place whose derived phase is holding
  abbrev pub HolderDerives : Type 0
  HolderDerives = (s : L) (es : List Event) (t : L) → Past s es t → (p : ℕ) → ((F.meaning t).holder ≡ Some p → phase_from es p ≡ Holding) × (phase_from es p ≡ Holding → (F.meaning t).holder ≡ Some p)

  -- at most one place is holding
  abbrev pub OneHolder : Type 0
  OneHolder = (s : L) (es : List Event) (t : L) → Past s es t → (p q : ℕ) → phase_from es p ≡ Holding → phase_from es q ≡ Holding → p ≡ q

  -- after a past with no holder and an active place, over any calls made next of which each is
  -- refused or waits, some active place waits fewer than S times
  abbrev pub Progress : Type 0
  Progress =
      (s : L) (es : List Event) (t : L) → Past s es t →
      ((p : ℕ) → phase_from es p ≢ Holding) → (p : ℕ) → Active (phase_from es p) →
      (next : List Event) (u : L) → Run t next u → AllByRecursion (λ e. (is_refusal e.reply || is_wait e.reply) ≡ true) next →
      (q : ℕ) × Active (phase_from es q) × (waits q next < (F.meaning s).wait_limit)

  -- in every stretch at most M accepted calls neither wait nor enter
  abbrev pub Economy : Type 0
  Economy = (s : L) (es : List Event) (t : L) → Past s es t → AllByRecursion (λ stretch. work stretch ≤ (F.meaning s).call_limit) (stretches es)

  pub record Promises : Type 0 where
    pub fixed : Fixed
    pub phases_derive : PhasesDerive
    pub holder_derives : HolderDerives
    pub one_holder : OneHolder
    pub progress : Progress
    pub economy : Economy
