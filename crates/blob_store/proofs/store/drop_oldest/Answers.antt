use Rattle.std.proofs.Common.{◌≡◌, ℕ, ◌<◌, List, [], ◌∷◌, length, refl, sym, ap, subst, arith}
use Rattle.blob_store.specs.Uploads.{octets_in_all}
use Rattle.blob_store.proofs.NewestLemmas.{HaveGone, one_gone}
use Rattle.blob_store.proofs.store.drop_oldest.Goals as goal

-- where there are too many octets there is an oldest upload
oldest_of : (most : ℕ) (us : List (List ℕ)) → most < octets_in_all us → (oldest : List ℕ) × (rest : List (List ℕ)) × (us ≡ oldest ∷ rest)
oldest_of most [] many = absurd (omega (arith, many))
oldest_of most (u ∷ us) many = (u, us, refl)

pub loop-uploads-smaller : goal.loop-uploads-smaller
loop-uploads-smaller c =
    let many : 200000000 < octets_in_all c.loop-uploads.uploads = omega (arith, c.loop-uploads-test.true, c.total.ensures) in
    let parts = oldest_of 200000000 c.loop-uploads.uploads many in
    let rest = c.pop.ensures.oldest parts.0 parts.1 parts.2 in
    omega (arith, ap length parts.2, ap length rest)

pub loop-uploads-preserved : goal.loop-uploads-preserved
loop-uploads-preserved c =
    let many : 200000000 < octets_in_all c.loop-uploads.uploads = omega (arith, c.loop-uploads-test.true, c.total.ensures) in
    let us = c.loop-uploads.uploads in
    let parts = oldest_of 200000000 us many in
    let rest = c.pop.ensures.oldest parts.0 parts.1 parts.2 in
    let so_far = subst (HaveGone 200000000 _) parts.2 c.loop-uploads.invariant in
    subst (HaveGone 200000000 _) (sym rest) (one_gone 200000000 _ parts.0 parts.1 so_far (subst (λ xs. 200000000 < octets_in_all xs) parts.2 many))
