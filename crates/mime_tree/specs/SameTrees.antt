-- Parts that are the same, whatever memory they lie in.
use Rattle.std.specs.Prelude.{◌≡◌, ℕ, zero, suc, List, [], ◌∷◌}
use Rattle.mime_tree.specs.declared.part.Part.{Part, out-Part}
use Rattle.mime_tree.specs.Parts.{children}

abbrev pub AllSame : (Part → Part → Type 0) → List Part → List Part → Type 0
AllSame S [] [] = Unit {0}
AllSame S [] (d ∷ ds) = ⊥
AllSame S (c ∷ cs) [] = ⊥
AllSame S (c ∷ cs) (d ∷ ds) = S c d × AllSame S cs ds

pub record SamePart (S : Part → Part → Type 0) (p q : Part) : Type 0 where
  pub number : (out-Part p).number ≡ (out-Part q).number
  pub media : (out-Part p).media ≡ (out-Part q).media
  pub charset : (out-Part p).charset ≡ (out-Part q).charset
  pub disposition : (out-Part p).disposition ≡ (out-Part q).disposition
  pub name : (out-Part p).name ≡ (out-Part q).name
  pub cid : (out-Part p).cid ≡ (out-Part q).cid
  pub language : (out-Part p).language ≡ (out-Part q).language
  pub location : (out-Part p).location ≡ (out-Part q).location
  pub encoding : (out-Part p).encoding ≡ (out-Part q).encoding
  pub head_start : (out-Part p).head_start ≡ (out-Part q).head_start
  pub head_end : (out-Part p).head_end ≡ (out-Part q).head_end
  pub start : (out-Part p).start ≡ (out-Part q).start
  pub end : (out-Part p).end ≡ (out-Part q).end
  pub children : AllSame S (children p) (children q)

abbrev pub NoPart : Part → Part → Type 0
NoPart p q = ⊥

-- the same, with at most n levels below
unfoldable pub Same : ℕ → Part → Part → Type 0
Same zero p q = SamePart NoPart p q
Same (suc more) p q = SamePart (Same more) p q
