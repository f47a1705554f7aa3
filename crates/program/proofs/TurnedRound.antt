-- The calls of a past, the newest first, are those made, turned round. Assumes nothing.
use Rattle.std.proofs.Common.{◌≡◌, List, [], ◌∷◌, ◌++◌, map, reverse, sym, refl, ap, ◌∙◌}
use Rattle.std.proofs.lemmas.List.{reverse-reverse}
use Rattle.std.proofs.lemmas.Grind.{reverse_onto}
use Rattle.lock.specs.declared.Call.{Call}
use Rattle.lock.specs.Pasts.{Event}
use Rattle.replay.specs.Replays.{calls_made}

made_turned : (es : List Event) → calls_made es ≡ reverse (map (λ e. e.call) es)
made_turned [] = refl
made_turned (e ∷ es) = ap (λ l. l ++ e.call ∷ []) (made_turned es) ∙ sym (reverse_onto (map (λ e. e.call) es) e.call [])

pub turned_round : (es : List Event) (cs : List Call) → calls_made es ≡ cs → map (λ e. e.call) es ≡ reverse cs
turned_round es cs is = sym (reverse-reverse (map (λ e. e.call) es)) ∙ ap reverse (sym (made_turned es) ∙ is)
