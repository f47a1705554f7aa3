-- The promises over pasts, for any lock that keeps the meaning. Assumes nothing.
use Rattle.std.proofs.Common.{◌≡◌, ℕ, pred, ◌+◌, ◌≤◌, Bool, true, false, cond, ◌||◌, eqb, List, [], ◌∷◌, Some, None, Option, sym, refl, ap, ◌∙◌, subst, ⊎_elim, arith, Ok, Err}
use Rattle.std.proofs.lemmas.Bool.{eq-eqb, ne_eqb, cases_eq, cond_both, true≢false, cases_Bool}
use Rattle.std.specs.List.{AllByRecursion}
use Rattle.lock.specs.declared.Phase.{Phase}
use Rattle.lock.specs.declared.Phase.TheVariants.{Out, Bidding, Holding, Leaving}
use Rattle.lock.specs.declared.Answer.{Answer}
use Rattle.lock.specs.declared.Answer.TheVariants.{Waits, Moves, Enters, Out as Gone}
use Rattle.lock.specs.declared.Kind.{Kind}
use Rattle.lock.specs.declared.Kind.TheVariants.{Bid, Step, Leave}
use Rattle.lock.specs.declared.Call.{Call}
use Rattle.lock.specs.declared.Refusal.{Refusal}
use Rattle.lock.specs.Calls.{Reply}
use Rattle.lock.specs.Meaning.{Meaning, Form, Keeps, Changes, Accepted, Stepped, Waited, Turns, SamePhases, SameSize, Active, MarkWaited, open_after, refusal_of}
use Rattle.lock.specs.Pasts.{Event, is_wait, is_entry, is_refusal, phase_after, phase_from, waits, work_of, work, onto_first, stretches, Run, Past, Fixed, PhasesDerive, HolderDerives, OneHolder, Progress, Economy, Promises}

-- the phase of place p after a call for place q
abbrev phase_at : ℕ → ℕ → Kind → Reply → Phase → Phase
phase_at p q k r f = cond (eqb p q) (phase_after k r f) f

turned : (m m' : Meaning) (q : ℕ) (f : Phase) (p : ℕ) → Turns m q f m' → m'.phase p ≡ cond (eqb p q) f (m.phase p)
turned m m' q f p t =
    ⊎_elim
    (λ (e : p ≡ q). let h = eq-eqb p q e in rw h (ap m'.phase e ∙ t.own))
    (λ (n : p ≡ q → ⊥). let h = ne_eqb p q n in rw h (t.others p n))
    (cases_eq p q)

still : (m m' : Meaning) (q p : ℕ) → SamePhases m m' → m'.phase p ≡ cond (eqb p q) (m.phase p) (m.phase p)
still m m' q p h = cond_both (eqb p q) (m.phase p) (m.phase p) (λ x. m'.phase p ≡ x) (λ _. h p) (λ _. h p)

phase_stepped : (m m' : Meaning) (q : ℕ) (a : Answer) → Stepped m q a m' → (p : ℕ) → m'.phase p ≡ phase_at p q Step (Ok (Some a)) (m.phase p)
phase_stepped m m' q Waits h p = still m m' q p h.phases
phase_stepped m m' q Moves h p = still m m' q p h.phases
phase_stepped m m' q Enters h p = turned m m' q Holding p h.phases
phase_stepped m m' q Gone h p = turned m m' q Out p h.phases

phase_refused : (m m' : Meaning) (q : ℕ) (k : Kind) (e : Refusal) → m' ≡ m → (p : ℕ) → m'.phase p ≡ phase_at p q k (Err e) (m.phase p)
phase_refused m m' q Bid e h p = still m m' q p (λ x. ap (λ (n : Meaning). n.phase x) h)
phase_refused m m' q Step e h p = still m m' q p (λ x. ap (λ (n : Meaning). n.phase x) h)
phase_refused m m' q Leave e h p = still m m' q p (λ x. ap (λ (n : Meaning). n.phase x) h)

phase_accepted : (m m' : Meaning) (k : Kind) (q : ℕ) (r : Reply) → Accepted m k q r m' → (p : ℕ) → m'.phase p ≡ phase_at p q k r (m.phase p)
phase_accepted m m' Bid q r h p = rw h.reply (turned m m' q Bidding p h.phases)
phase_accepted m m' Step q r h p = rw h.1 (phase_stepped m m' q h.0 h.2 p)
phase_accepted m m' Leave q r h p = rw h.reply (turned m m' q Leaving p h.phases)

-- each call changes the phases as what it returned says
phase_changed : (m m' : Meaning) (c : Call) (r : Reply) (o : Option Refusal) → Changes o m c r m' → (p : ℕ) → m'.phase p ≡ phase_at p c.place c.kind r (m.phase p)
phase_changed m m' c r None h p = phase_accepted m m' c.kind c.place r h.0 p
phase_changed m m' c r (Some e) h p = rw h.0 (phase_refused m m' c.place c.kind e h.1 p)

spent_stepped : (m m' : Meaning) (q : ℕ) (a : Answer) → Stepped m q a m' → is_entry (Ok (Some a)) ≡ false → work_of (Ok (Some a)) + m'.credit ≤ m.credit
spent_stepped m m' q Waits h n = omega (arith, h.credit)
spent_stepped m m' q Moves h n = omega (arith, h.credit)
spent_stepped m m' q Enters h n = absurd (true≢false n)
spent_stepped m m' q Gone h n = omega (arith, h.credit)

spent_accepted : (m m' : Meaning) (k : Kind) (q : ℕ) (r : Reply) → Accepted m k q r m' → is_entry r ≡ false → work_of r + m'.credit ≤ m.credit
spent_accepted m m' Bid q r h n = rw h.reply (omega (arith, h.credit))
spent_accepted m m' Step q r h n = rw h.1 (spent_stepped m m' q h.0 h.2 (rw h.1 at n))
spent_accepted m m' Leave q r h n = rw h.reply (omega (arith, h.credit))

-- each call but an entry pays for itself out of the credit
spent : (m m' : Meaning) (c : Call) (r : Reply) (o : Option Refusal) → Changes o m c r m' → is_entry r ≡ false → work_of r + m'.credit ≤ m.credit
spent m m' c r None h n = spent_accepted m m' c.kind c.place r h.0 n
spent m m' c r (Some e) h n = rw h.0 (omega (arith, ap (λ (k : Meaning). k.credit) h.1))

same_size : (m m' : Meaning) (c : Call) (r : Reply) (o : Option Refusal) → Changes o m c r m' → SameSize m m'
same_size m m' c r None h = h.1
same_size m m' c r (Some e) h =
    record {
      places = ap (λ (k : Meaning). k.places) h.1;
      wait_limit = ap (λ (k : Meaning). k.wait_limit) h.1;
      call_limit = ap (λ (k : Meaning). k.call_limit) h.1;
    }

sizes_joined : (a b c : Meaning) → SameSize a b → SameSize b c → SameSize a c
sizes_joined a b c h k =
    record {
      places = k.places ∙ h.places;
      wait_limit = k.wait_limit ∙ h.wait_limit;
      call_limit = k.call_limit ∙ h.call_limit;
    }

-- a place q that was open after d waits, of which it has made n
record Open (m : Meaning) (q n d : ℕ) : Type 0 where
  left : ℕ
  mark : m.mark q ≡ open_after left
  sum : n + left ≡ d

open_waited : (m m' : Meaning) (p q n d : ℕ) → Waited m p m' → Open m q n d → Open m' q (cond (eqb q p) 1 0 + n) d
open_waited m m' p q n d w o =
    ⊎_elim
    (λ (e : q ≡ p).
    let t = eq-eqb q p e in
    let own : MarkWaited (m.mark p) (m'.mark p) = w.own_mark in
    let was : m.mark p ≡ open_after o.left = ap m.mark (sym e) ∙ o.mark in
    let fell = rw was at own in
    let is : m'.mark q ≡ open_after (pred o.left) = ap m'.mark e ∙ fell.1 in
    rw t (record { left = pred o.left; mark = is; sum = omega (arith, fell.0, o.sum) }))
    (λ (ne : q ≡ p → ⊥).
    let t = ne_eqb q p ne in
    rw t (record { left = o.left; mark = w.other_marks q ne ∙ o.mark; sum = omega (arith, o.sum) }))
    (cases_eq q p)

-- replies to calls that are refused or wait
abbrev idle : Reply → Bool
idle r = is_refusal r || is_wait r

open_stepped : (m m' : Meaning) (p q n d : ℕ) (a : Answer) → Stepped m p a m' → idle (Ok (Some a)) ≡ true → Open m q n d → Open m' q (cond (eqb q p) (cond (is_wait (Ok (Some a))) 1 0) 0 + n) d
open_stepped m m' p q n d Waits h i o = open_waited m m' p q n d h o
open_stepped m m' p q n d Moves h i o = absurd (true≢false (sym i))
open_stepped m m' p q n d Enters h i o = absurd (true≢false (sym i))
open_stepped m m' p q n d Gone h i o = absurd (true≢false (sym i))

open_accepted : (m m' : Meaning) (k : Kind) (p : ℕ) (r : Reply) (q n d : ℕ) → Accepted m k p r m' → idle r ≡ true → Open m q n d → Open m' q (cond (eqb q p) (cond (is_wait r) 1 0) 0 + n) d
open_accepted m m' Bid p r q n d h i o = absurd (true≢false (sym (rw h.reply at i)))
open_accepted m m' Step p r q n d h i o = rw h.1 (open_stepped m m' p q n d h.0 h.2 (rw h.1 at i) o)
open_accepted m m' Leave p r q n d h i o = absurd (true≢false (sym (rw h.reply at i)))

-- a call that is refused or waits brings an open place no further from getting on
open_idle : (m m' : Meaning) (c : Call) (r : Reply) (f : Option Refusal) (q n d : ℕ) → Changes f m c r m' → idle r ≡ true → Open m q n d → Open m' q (cond (eqb q c.place) (cond (is_wait r) 1 0) 0 + n) d
open_idle m m' c r None q n d h i o = open_accepted m m' c.kind c.place r q n d h.0 i o
open_idle m m' c r (Some e) q n d h i o =
    let none : cond (eqb q c.place) 0 0 ≡ 0 = cond_both (eqb q c.place) 0 0 (λ (x : ℕ). x ≡ 0) (λ _. refl) (λ _. refl) in
    rw (h.0, none) (record { left = o.left; mark = ap (λ (k : Meaning). k.mark q) h.1 ∙ o.mark; sum = omega (arith, o.sum) })

-- the stretch that is still going on has left at least the credit c of the limit M
abbrev Spared : ℕ → ℕ → List (List Event) → Type 0
Spared M c [] = ⊥
Spared M c (s ∷ ss) = (work s + c ≤ M) × AllByRecursion (λ stretch. work stretch ≤ M) ss

spared_entry : (M c c' : ℕ) (ss : List (List Event)) → c' ≤ M → Spared M c ss → Spared M c' ([] ∷ ss)
spared_entry M c c' [] h k = absurd k
spared_entry M c c' (s ∷ ss) h k = (omega arith, (omega (arith, k.0), k.1))

spared_other : (M c c' : ℕ) (e : Event) (ss : List (List Event)) → work_of e.reply + c' ≤ c → Spared M c ss → Spared M c' (onto_first e ss)
spared_other M c c' e [] h k = absurd k
spared_other M c c' e (s ∷ ss) h k = (omega (arith, h, k.0), k.1)

spared_all : (M c : ℕ) (ss : List (List Event)) → Spared M c ss → AllByRecursion (λ stretch. work stretch ≤ M) ss
spared_all M c [] k = absurd k
spared_all M c (s ∷ ss) k = (omega (arith, k.0), k.1)

module _ {L : Type 0} {F : Form L} {sound : L → Type 0} (keeps : Keeps F sound) where
  run_sound : (s : L) → sound s → (es : List Event) (t : L) → Run F s es t → sound t
  run_sound s so [] t run = subst sound (sym run) so
  run_sound s so (e ∷ es) t run = keeps.stays_sound run.0 t e.call e.reply (run_sound s so es run.0 run.1) run.2

  past_sound : (s : L) (es : List Event) (t : L) → Past F s es t → sound t
  past_sound s es t past = run_sound (F.made s) (keeps.made_sound s) es t past

  past_changes : (s : L) (e : Event) (es : List Event) (t : L) (past : Past F s (e ∷ es) t) → Changes (refusal_of (F.meaning past.0) e.call) (F.meaning past.0) e.call e.reply (F.meaning t)
  past_changes s e es t past = keeps.changes past.0 t e.call e.reply (past_sound s es past.0 past.1) past.2

  fixed : Fixed F
  fixed s [] t past = subst (λ (x : L). SameSize (F.meaning s) (F.meaning x)) (sym past) (keeps.made_sizes s)
  fixed s (e ∷ es) t past =
      let before = fixed s es past.0 past.1 in
      let m = F.meaning past.0 in
      sizes_joined (F.meaning s) m (F.meaning t) before (same_size m (F.meaning t) e.call e.reply (refusal_of m e.call) (past_changes s e es t past))

  phases : (s : L) (es : List Event) (t : L) → Past F s es t → (p : ℕ) → (F.meaning t).phase p ≡ phase_from es p
  phases s [] t past p = ap (λ (x : L). (F.meaning x).phase p) past ∙ (keeps.made_fresh s).all_out p
  phases s (e ∷ es) t past p =
      let m = F.meaning past.0 in
      let before = phases s es past.0 past.1 p in
      let here = phase_changed m (F.meaning t) e.call e.reply (refusal_of m e.call) (past_changes s e es t past) p in
      rw before at here

  phases_derive : PhasesDerive F
  phases_derive s es t past p = rw ((fixed s es t past).places, phases s es t past p) refl

  holder_derives : HolderDerives F
  holder_derives s es t past p =
      let form = keeps.well_formed t (past_sound s es t past) in
      let is = phases s es t past p in (
        λ named. sym is ∙ form.named_holds p named,
        λ holds. form.holding_named p (is ∙ holds),
      )

  one_holder : OneHolder F
  one_holder s es t past p q hp hq =
      let named_p = (holder_derives s es t past p).1 hp in
      let named_q = (holder_derives s es t past q).1 hq in
      cc

  spared : (s : L) (es : List Event) (t : L) → Past F s es t → Spared (F.meaning s).call_limit (F.meaning t).credit (stretches es)
  spared s [] t past = (omega (arith, (keeps.well_formed t (past_sound s [] t past)).within_limit, (fixed s [] t past).call_limit), tt)
  spared s (e ∷ es) t past =
      let m = F.meaning past.0 in
      let before = spared s es past.0 past.1 in
      let changes = past_changes s e es t past in
      let within = (keeps.well_formed t (past_sound s (e ∷ es) t past)).within_limit in
      ⊎_elim
      (λ (y : is_entry e.reply ≡ true). rw y (spared_entry (F.meaning s).call_limit m.credit (F.meaning t).credit (stretches es) (omega (arith, within, (fixed s (e ∷ es) t past).call_limit)) before))
      (λ (y : is_entry e.reply ≡ false). rw y (spared_other (F.meaning s).call_limit m.credit (F.meaning t).credit e (stretches es) (spent m (F.meaning t) e.call e.reply (refusal_of m e.call) changes y) before))
      (cases_Bool (is_entry e.reply))

  economy : Economy F
  economy s es t past = spared_all (F.meaning s).call_limit (F.meaning t).credit (stretches es) (spared s es t past)

  run_open : (s : L) (q d : ℕ) → sound s → (F.meaning s).mark q ≡ open_after d → (next : List Event) (t : L) → Run F s next t → AllByRecursion (λ e. idle e.reply ≡ true) next → Open (F.meaning t) q (waits q next) d
  run_open s q d so mark [] t run calm = record { left = d; mark = ap (λ (x : L). (F.meaning x).mark q) run ∙ mark; sum = omega arith }
  run_open s q d so mark (e ∷ es) t run calm =
      let before = run_open s q d so mark es run.0 run.1 calm.1 in
      let m = F.meaning run.0 in
      let changes = keeps.changes run.0 t e.call e.reply (run_sound s so es run.0 run.1) run.2 in
      open_idle m (F.meaning t) e.call e.reply (refusal_of m e.call) q (waits q es) d changes calm.0 before

  progress : Progress F
  progress s es t past free p active next u run calm =
      let so = past_sound s es t past in
      let is = phases s es t past in
      let form = keeps.well_formed t so in
      let found = form.some_open (λ q h. free q (sym (is q) ∙ h)) p (subst Active (sym (is p)) active) in
      let opened = run_open t found.0 found.1 so found.3 next u run calm in (
        found.0,
        subst Active (is found.0) found.2,
        omega (arith, opened.sum, form.short_delay found.0 found.1 found.3, (fixed s es t past).wait_limit),
      )

  pub promises : Promises F
  promises =
      record {
        fixed = fixed;
        phases_derive = phases_derive;
        holder_derives = holder_derives;
        one_holder = one_holder;
        progress = progress;
        economy = economy;
      }
