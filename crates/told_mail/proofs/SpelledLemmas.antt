-- What a store's octets spell of folders and messages.
use Rattle.std.proofs.Common.{◌≡◌, ◌≢◌, ℕ, ◌≤◌, Bool, true, false, List, [], ◌∷◌, Option, Some, None, sym, subst, inl, inr}
use Rattle.imap_types.specs.declared.response.Response.TheVariants as response
use Rattle.imap_types.specs.declared.response.FetchItems.{FetchItems}
use Rattle.imap_types.specs.Folders.{IsDelimiter, IsListLine}
use Rattle.imap_types.specs.Items.{Item, IsItems, IsMore, IsItemValue, told, told_from, items_of, no_items, kept}
use Rattle.imap_types.specs.Items.Item.{Uid, Flags, ModSeq, Date, Size, Header, Body, Other}
use Rattle.imap_types.specs.Octets.{is_text}
use Rattle.imap_types.specs.Spells.{IsItemsLine, IsSpelling}
use Rattle.told_folder.proofs.KeyedLemmas.{some_same, some_is_not_none}
use Rattle.imap_types.proofs.KeptLemmas.{kept_again}

-- the flags that are told are in kept form, and the UID fits
pub record AreFine (items : FetchItems) : Type 0 where
  pub flags : (fs : List (List ℕ)) → items.flags ≡ Some fs → kept fs ≡ fs
  pub uid : (u : ℕ) → items.uid ≡ Some u → u ≤ 4294967295

fine_told : (items : FetchItems) (i : Item) (name value : List ℕ) → IsItemValue i name value → AreFine items → AreFine (told items i)
fine_told items (Uid n) name value v a = record { flags = a.flags; uid = λ u e. subst (λ (k : ℕ). k ≤ 4294967295) (some_same n u e) v.1.0.most }
fine_told items (Flags ns) name value v a = record { flags = λ fs e. subst (λ (zs : List (List ℕ)). kept zs ≡ zs) (some_same (kept ns) fs e) (kept_again ns); uid = a.uid }
fine_told items (ModSeq n) name value v a = record { flags = a.flags; uid = a.uid }
fine_told items (Date s) name value v a = record { flags = a.flags; uid = a.uid }
fine_told items (Size n) name value v a = record { flags = a.flags; uid = a.uid }
fine_told items (Header s) name value v a = record { flags = a.flags; uid = a.uid }
fine_told items (Body s) name value v a = record { flags = a.flags; uid = a.uid }
fine_told items Other name value v a = a

fine_more : (items : FetchItems) (is : List Item) (t : List ℕ) → IsMore is t → AreFine items → AreFine (told_from items is)
fine_more items [] t m a = a
fine_more items (i ∷ is) t m a = fine_more (told items i) is m.1 m.4 (fine_told items i m.3.name m.3.value m.3.item a)

fine_none : AreFine no_items
fine_none = record { flags = λ fs e. absurd (some_is_not_none fs (sym e)); uid = λ u e. absurd (some_is_not_none u (sym e)) }

fine_items : (is : List Item) (t : List ℕ) → IsItems is t → AreFine (items_of is)
fine_items [] t m = absurd m
fine_items (i ∷ is) t m = fine_more (told no_items i) is m.back m.second (fine_told no_items i m.first.name m.first.value m.first.item fine_none)

fine_line : (items : FetchItems) (t : List ℕ) → IsItemsLine items t → AreFine items
fine_line items t l = subst AreFine (sym l.4) (fine_items l.0 l.1 l.3)

-- a FETCH that octets spell tells flags in kept form, and a UID below 2^32
pub fetch_fine : (seq : ℕ) (items : FetchItems) (b : List ℕ) → IsSpelling (response.Fetch seq items) b → AreFine items
fetch_fine seq items b s = elim s.spells.2 [ inl w ↦ fine_line items w.3.tail w.3.says.2 | inr w ↦ absurd w.0.says ]

not_zero : (d : Option ℕ) (t : List ℕ) → IsDelimiter d t → d ≢ Some 0
not_zero None t i = λ e. absurd (some_is_not_none 0 (sym e))
not_zero (Some c) t i = λ e. let none : is_text 0 ≡ true = subst (λ (k : ℕ). is_text k ≡ true) (some_same c 0 e) i.0.0 in let wrong : ◌≡◌ {A = Bool} false true = none in absurd
    (cc)

fine_list : (attributes : List (List ℕ)) (delimiter : Option ℕ) (name t : List ℕ) → IsListLine attributes delimiter name t → (kept attributes ≡ attributes) × (delimiter ≢ Some 0)
fine_list attributes delimiter name t l =
    (subst (λ (zs : List (List ℕ)). kept zs ≡ zs) (sym l.attributes_are) (kept_again l.told), not_zero delimiter l.second l.delimited)

-- a LIST line that octets spell tells attributes in kept form, and no delimiter of octet 0
pub list_fine : (attributes : List (List ℕ)) (delimiter : Option ℕ) (name b : List ℕ) → IsSpelling (response.List attributes delimiter name) b
    → (kept attributes ≡ attributes) × (delimiter ≢ Some 0)
list_fine attributes delimiter name b s = elim s.spells.2 [ inl w ↦ absurd w.3.says | inr w ↦ fine_list attributes delimiter name w.0.tail w.0.says.1 ]
