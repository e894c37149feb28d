-- Dropping the oldest uploads, one after another.
use Rattle.std.proofs.Common.{◌≡◌, ℕ, ◌<◌, ◌≤◌, List, [], ◌∷◌, ◌++◌, inl, inr, refl, sym, ◌∙◌}
use Rattle.std.proofs.lemmas.List.{append_assoc}
use Rattle.blob_store.specs.Uploads.{octets_in_all, HaveToGo, AreNewest}

-- uploads have gone from the front, and had to
pub record HaveGone (most : ℕ) (all now : List (List ℕ)) : Type 0 where
  pub gone : List (List ℕ)
  pub whole : all ≡ gone ++ now
  pub needed : HaveToGo most gone now

-- at the beginning no upload has gone
pub none_gone : (most : ℕ) (all : List (List ℕ)) → HaveGone most all all
none_gone most all = record { gone = []; whole = refl; needed = inl refl }

-- while the uploads that are left have too many octets, the oldest of them has to go
pub one_gone : (most : ℕ) (all : List (List ℕ)) (oldest : List ℕ) (now : List (List ℕ)) → HaveGone most all (oldest ∷ now) → most < octets_in_all (oldest ∷ now)
    → HaveGone most all now
one_gone most all oldest now so_far many = record {
  gone = so_far.gone ++ oldest ∷ [];
  whole = so_far.whole ∙ sym (append_assoc so_far.gone (oldest ∷ []) now);
  needed = inr (so_far.gone, oldest, refl, many);
}

-- once the uploads that are left have few enough octets, they are the newest that do
pub are_newest : (most : ℕ) (all now : List (List ℕ)) → HaveGone most all now → octets_in_all now ≤ most → AreNewest most all now
are_newest most all now so_far fit = record { gone = so_far.gone; whole = so_far.whole; fit = fit; needed = so_far.needed }
