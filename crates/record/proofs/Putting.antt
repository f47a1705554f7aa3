-- Bytes written one behind the other over a buffer. Assumes nothing.
use Rattle.std.proofs.Common.{◌≡◌, ℕ, ◌+◌, ◌*◌, ◌<◌, ◌≤◌, List, [], ◌∷◌, ◌++◌, length, get_or, take, drop, sym, refl, ap, ◌∙◌, arith, length-append}
use Rattle.std.proofs.lemmas.List.{append_assoc, take_at, drop_at, drop-drop, take_more, length-take-le}
use Rattle.record.specs.declared.call.RawCall.{RawCall}
use Rattle.record.specs.Layout.{number_bytes, call_bytes, encode}
use Rattle.record.specs.Writing.{put_at}
use Rattle.record.proofs.CallBytes.{length-call_bytes}

-- behind what is done, the buffer is as it was
pub put_more : (b₀ b₁ done bytes : List ℕ) (at : ℕ) → length done ≡ at → b₁ ≡ done ++ drop at b₀ → put_at b₁ at bytes ≡ (done ++ bytes) ++ drop (at + length bytes) b₀
put_more b₀ b₁ done bytes at long e =
    let rest : drop (at + length bytes) (done ++ drop at b₀) ≡ drop (at + length bytes) b₀ = rw (← drop-drop (length bytes) at (done ++ drop at b₀), drop_at done (drop at b₀) at long) (drop-drop (length bytes) at b₀) in
    rw (e, take_at done (drop at b₀) at long, rest) (sym (append_assoc done bytes (drop (at + length bytes) b₀)))

call_bytes-append : (cs ds : List RawCall) → call_bytes (cs ++ ds) ≡ call_bytes cs ++ call_bytes ds
call_bytes-append [] ds = refl
call_bytes-append (c ∷ cs) ds = ap (λ l. c.kind ∷ (c.place ∷ l)) (call_bytes-append cs ds)

pub put_call_more : (b₀ b₁ : List ℕ) (cs : List RawCall) (c : RawCall) (i at : ℕ) → 16 ≤ length b₀ → i < length cs → at ≡ 16 + 2 * i → c ≡ get_or cs i c → b₁ ≡ put_at b₀ 16 (call_bytes (take i cs)) → put_at b₁ at (c.kind ∷ (c.place ∷ [])) ≡ put_at b₀ 16 (call_bytes (take (i + 1) cs))
put_call_more b₀ b₁ cs c i at header within e here done =
    let few : i ≤ length cs = omega arith in
    let long : length (call_bytes (take i cs)) ≡ 2 * i = length-call_bytes (take i cs) ∙ ap (λ n. 2 * n) (length-take-le i cs few) in
    let front : length (take 16 b₀) ≡ 16 = length-take-le 16 b₀ header in
    let written : length (take 16 b₀ ++ call_bytes (take i cs)) ≡ at = rw length-append (omega arith) in
    let so_far : 16 + length (call_bytes (take i cs)) ≡ at = omega arith in
    let next : call_bytes (take (i + 1) cs) ≡ call_bytes (take i cs) ++ (c.kind ∷ (c.place ∷ [])) = ap call_bytes (take_more cs i c within ∙ ap (λ x. take i cs ++ (x ∷ [])) (sym here)) ∙ call_bytes-append (take i cs) (c ∷ []) in
    let longer : 16 + length (call_bytes (take (i + 1) cs)) ≡ at + 2 = rw (next, length-append) (omega arith) in
    put_more b₀ b₁ (take 16 b₀ ++ call_bytes (take i cs)) (c.kind ∷ (c.place ∷ [])) at written (done ∙ rw so_far (sym (append_assoc (take 16 b₀) (call_bytes (take i cs)) (drop at b₀))))
    ∙ rw (longer, next) (simp append_assoc)

-- the four numbers of the header, and then the calls
pub record_put : (n : ℕ) (cs : List RawCall) (b₀ b₁ b₂ b₃ b₄ b₅ : List ℕ) → b₁ ≡ put_at b₀ 0 (number_bytes n) → b₂ ≡ put_at b₁ 4 (number_bytes (length cs)) → b₃ ≡ put_at b₂ 8 (number_bytes 16) → b₄ ≡ put_at b₃ 12 (number_bytes (16 + 2 * length cs)) → b₅ ≡ put_at b₄ 16 (call_bytes cs) → b₅ ≡ encode n cs ++ drop (length (encode n cs)) b₀
record_put n cs b₀ b₁ b₂ b₃ b₄ b₅ e₁ e₂ e₃ e₄ e₅ =
    let p₁ = e₁ ∙ put_more b₀ b₀ [] (number_bytes n) 0 refl refl in
    let p₂ = e₂ ∙ put_more b₀ b₁ (number_bytes n) (number_bytes (length cs)) 4 refl p₁ in
    let p₃ = e₃ ∙ put_more b₀ b₂ (number_bytes n ++ number_bytes (length cs)) (number_bytes 16) 8 refl p₂ in
    let p₄ = e₄ ∙ put_more b₀ b₃ (number_bytes n ++ number_bytes (length cs) ++ number_bytes 16) (number_bytes (16 + 2 * length cs)) 12 refl p₃ in
    let p₅ = e₅ ∙ put_more b₀ b₄ (number_bytes n ++ number_bytes (length cs) ++ number_bytes 16 ++ number_bytes (16 + 2 * length cs)) (call_bytes cs) 16 refl p₄ in
    let whole : 16 + length (call_bytes cs) ≡ length (encode n cs) = omega arith in
    p₅ ∙ rw whole refl
