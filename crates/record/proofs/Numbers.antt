-- A number and its four bytes say the same. Assumes nothing.
use Rattle.std.proofs.Common.{◌≡◌, ℕ, ◌+◌, ◌^◌, ◌<◌, ◌≤◌, List, ◌++◌, length, get_or, take, drop, arith, length-drop}
use Rattle.std.proofs.lemmas.Grind.{common_steps}
use Rattle.std.proofs.lemmas.List.{length-take-le}
use Rattle.std.proofs.lemmas.Nat.{le_bytes_4, from_le_bytes-to_le_bytes_4}
use Rattle.record.specs.Layout.{number_at, number_bytes}

pub number_of_bytes : (n : ℕ) (rest : List ℕ) → n < 2 ^ 32 → number_at (number_bytes n ++ rest) 0 ≡ n
number_of_bytes n rest small = from_le_bytes-to_le_bytes_4 n small

pub bytes_of_number : (bs : List ℕ) (at : ℕ) → at + 4 ≤ length bs → ((i : ℕ) → get_or bs i 0 < 256) → number_bytes (number_at bs at) ≡ take 4 (drop at bs)
bytes_of_number bs at h small =
    let four : 4 ≤ length (drop at bs) = rw length-drop (omega arith) in
    le_bytes_4 (take 4 (drop at bs)) (number_at bs at) (length-take-le 4 (drop at bs) four)
    (λ i. grind (arith, common_steps, small (at + i)))
    (grind (arith, common_steps))
