-- Text that is written by one piece for each element of a list. Assumes nothing.
use Rattle.std.proofs.Common.{◌≡◌, ℕ, List, [], ◌∷◌, ◌++◌, sym, ap, ◌∙◌}
use Rattle.std.proofs.lemmas.List.{flat_map_more}
use Rattle.std.proofs.Output.{has_written_append, has_written_of_eq}
use Rattle.std.specs.List.{flat_map}
use Rattle.std.specs.Fmt.{HasWritten}
use Rattle.std.specs.declared.fmt.Formatter.{Formatter}

pub piece_more : {W X : Type 0} (took : W → List ℕ → W → Type 0) (piece : X → List ℕ) (before after : List X) (x : X) (f g h : Formatter W) → after ≡ before ++ x ∷ [] → HasWritten took f (flat_map piece before) g → HasWritten took g (piece x) h → HasWritten took f (flat_map piece after) h
piece_more {W} {X} took piece before after x f g h one_more so_far more =
    has_written_of_eq took f _ _ h (flat_map_more piece [] before x ∙ ap (λ (l : List X). flat_map piece l) (sym one_more)) (has_written_append took f _ g _ h so_far more)
