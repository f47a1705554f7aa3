-- Where each call on a lock has one outcome, what calls return and leave can be computed. Assumes nothing.
use Rattle.std.proofs.Common.{◌≡◌, List, [], ◌∷◌, map, refl, ap, ◌∙◌}
use Rattle.lock.specs.declared.Call.{Call}
use Rattle.lock.specs.Calls.{Reply}
use Rattle.lock.specs.Meaning.{Form}
use Rattle.lock.specs.Pasts.{Event, Run}

-- what a call returns and leaves
pub record Ran (S : Type 0) : Type 0 where
  pub reply : Reply
  pub after : S

-- each call has the outcome that `run` computes
abbrev pub Runs : {S : Type 0} → (S → Call → Reply → S → Type 0) → (S → Call → Ran S) → Type 0
Runs {S} takes run = (s t : S) (c : Call) (r : Reply) → takes s c r t → record { reply = r; after = t } ≡ run s c

-- a call on a lock that is known gives a reply and a lock that are known
pub follows : {S : Type 0} {takes : S → Call → Reply → S → Type 0} {run : S → Call → Ran S} → Runs takes run → (known s t : S) (c : Call) (r : Reply) → s ≡ known → takes s c r t → (r ≡ (run known c).reply) × (t ≡ (run known c).after)
follows {S} {run} runs known s t c r same taken =
    let ran = runs s t c r taken ∙ ap (λ (x : S). run x c) same in
    (ap (λ (x : Ran S). x.reply) ran, ap (λ (x : Ran S). x.after) ran)

module _ {S : Type 0} (run : S → Call → Ran S) (s : S) where
  -- the lock after calls of which the newest stands first
  abbrev pub state_after : List Call → S
  state_after [] = s
  state_after (c ∷ cs) = (run (state_after cs) c).after

  abbrev pub events_by : List Call → List Event
  events_by [] = []
  events_by (c ∷ cs) = record { call = c; reply = (run (state_after cs) c).reply } ∷ events_by cs

  -- the calls made determine what they returned, and the lock that they leave
  pub determined : (F : Form S) → Runs F.takes run → (es : List Event) (t : S) → Run F s es t → (es ≡ events_by (map (λ e. e.call) es)) × (t ≡ state_after (map (λ e. e.call) es))
  determined F runs [] t ran = (refl, ran)
  determined F runs (e ∷ es) t ran =
      let before = determined F runs es ran.0 ran.1 in
      let here = follows runs (state_after (map (λ x. x.call) es)) ran.0 t e.call e.reply before.1 ran.2 in
      ((λ i. record { call = e.call; reply = here.0 i } ∷ before.0 i), here.1)
