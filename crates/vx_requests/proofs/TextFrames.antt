-- The frames of texts and of counts: a head, and then the text or the counts.
use Rattle.std.proofs.Common.{◌≡◌, ℕ, ◌+◌, ◌*◌, pos, List, [], ◌∷◌, ◌++◌, length, arith, ap, ◌∙◌}
use Rattle.vx_requests.proofs.Common.{flat_map, w16, w32, to_be_bytes, encoded_sample, reply_bytes, reply_head, spelled_frame}
use Rattle.vx_base.specs.declared.format.Format.TheVariants.{U32}
use Rattle.vx_wire.specs.Counts.{counts_bytes}

pub text_parts : (client op : ℕ) (text bytes head : List ℕ)
    → bytes ≡ text
    → head ≡ reply_head (length bytes + 4) client op 0
    → head ++ bytes ≡ reply_bytes (spelled_frame client op (record { code = 0; body = text }))
text_parts client op text bytes head are made =
    ap (λ l. l ++ bytes) made
    ∙ ap (λ l. reply_bytes (spelled_frame client op (record { code = 0; body = l }))) are

-- each count takes four bytes
length-counts : (counts : List ℕ) → length (flat_map (to_be_bytes w32) counts) ≡ 4 * length counts
length-counts [] = omega arith
length-counts (n ∷ counts) = omega (arith, length-counts counts)

pub counts_parts : (client op : ℕ) (counts words head : List ℕ)
    → words ≡ counts
    → head ≡ reply_head (4 * length words + 6) client op 0 ++ to_be_bytes w16 (length words)
    → head ++ flat_map (λ n. encoded_sample U32 (pos n)) words
    ≡ reply_bytes (spelled_frame client op (record { code = 0; body = counts_bytes counts }))
counts_parts client op counts words head are made =
    let bytes : List ℕ = flat_map (to_be_bytes w32) words in
    let long : 4 * length words + 6 ≡ length (counts_bytes words) + 4 =
    omega (arith, length-counts words) in
    ap (λ l. l ++ bytes) made
    ∙ ap (λ n. (reply_head n client op 0 ++ to_be_bytes w16 (length words)) ++ bytes) long
    ∙ ap
    (λ l. reply_bytes (spelled_frame client op (record { code = 0; body = counts_bytes l })))
    are
