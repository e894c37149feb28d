use Rattle.std.proofs.Common.{◌≡◌, ◌+◌, ◌*◌, Result, Ok, Err, ◌++◌, length, sym, ap, ◌∙◌, true≢false, arith}
use Rattle.std.specs.Result.{IsOk, OnOk}
use Rattle.sha2.proofs.Facts256.{length-sha256}
use Rattle.hex.specs.Hex.{encode_lower}
use Rattle.blob_store.specs.Uploads.{blob_id}
use Rattle.blob_store.proofs.blob_id.blob_id.Goals as goal

on_ok : {T E P : Type 0} (r : Result T E) → IsOk r → OnOk r P → P
on_ok (Ok x) is p = p
on_ok (Err e) is p = absurd (true≢false (sym is))

pub returns : goal.returns
unfolding blob_id
returns c =
    let digest = c.digest-digest.ensures in
    let whole : length c.digest-digest.result ≡ 32 = ap length digest ∙ length-sha256 c.args.octets.now in
    let room : length c.split_at_mut-digits.result.1.now ≡ 2 * length c.digest-digest.result = omega (arith, c.split_at_mut-digits.ensures.back_len, whole) in
    let written = on_ok c.encode_to_slice.result (c.encode_to_slice.ensures.fits.1 room) c.encode_to_slice.ensures.written in
    (λ i. c.split_at_mut-digits.ensures.front i ++ (written ∙ ap encode_lower digest) i)
