-- A text has one list of addresses, as far as they read.
use Rattle.std.proofs.Common.{◌≡◌, inl, inr, ℕ, ◌<◌, true, false, not, List, [], ◌∷◌, ◌++◌, length, refl, sym, ap, ◌∙◌, subst, arith}
use Rattle.std.proofs.Common.{Option, Some, None, option_to_list}
use Rattle.std.specs.List.{AllZip, flat_map}
use Rattle.std.proofs.lemmas.Bool.{cases_lt}
use Rattle.std.proofs.lemmas.List.{append_cancel_left}
use Rattle.text_words.specs.Cuts.{Each}
use Rattle.text_words.proofs.CutLemmas.{one_run}
use Rattle.text_words.proofs.SequenceLemmas.{one_reading}
use Rattle.header_words.proofs.WordLemmas as words
use Rattle.header_words.proofs.WordLemmas.{same_length}
use Rattle.header_words.specs.OneLine.{one_line}
use Rattle.header_words.specs.declared.encoded_word.Edges.TheVariants as edges
use Rattle.mail_header.specs.RawForms.{raw_form}
use Rattle.mail_header.specs.WhiteEnd.{some_text}
use Rattle.header_addresses.specs.declared.address.Address.{Address}
use Rattle.header_addresses.specs.declared.address.Group.{Group}
use Rattle.header_addresses.specs.Names.{IsAddressesForm, IsGroupsForm}
use Rattle.header_addresses.proofs.FormLemmas.{zip_one, one_addresses, one_groups}
use Rattle.header_addresses.proofs.PartLemmas.{one_head, one_one, one_phrase}
use Rattle.loose_addresses.specs.Angles.{is_angle, NoAngle, IsLastAngle, begins_less, HaveNone, joined, IsLastOf, IsAddressAngle, Outside, Anywhere}
use Rattle.loose_addresses.specs.LooseForms as loose
use Rattle.loose_addresses.specs.LooseForms.{IsNoList, IsLooseAddressesForm, IsLooseGroupsForm, some_list}
use Rattle.loose_addresses.specs.LooseLists.{trimmed, in_angles, IsBehindHead, Dropped, NoHead, IsNameBefore, Phrase, AsItStands, IsEmailIn, OneInside, AsWritten}
use Rattle.loose_addresses.specs.LooseLists.{ReadsAs, Strict, InAngle, Bare, PassedOver, IsElementRead, AreLoose}
use Rattle.loose_addresses.specs.Lumps.{elements_of}
use Rattle.loose_addresses.specs.Torn.{IsUntorn}
use Rattle.loose_addresses.proofs.LumpLemmas.{lump_determined, one_row}

-- ---- what an element reads as

one_behind : (r q t : List ℕ) → IsBehindHead r t → IsBehindHead q t → r ≡ q
one_behind _ _ _ (Dropped r t g) (Dropped q _ h) = one_head r q t g.head h.head
one_behind _ _ _ (Dropped r t g) (NoHead _ n) = absurd (n r g)
one_behind _ _ _ (NoHead t n) (Dropped q _ h) = absurd (n q h)
one_behind _ _ _ (NoHead t n) (NoHead _ m) = refl

inside : (x c b tail : List ℕ) → x ++ 62 ∷ c ≡ b ++ 60 ∷ tail → Each (λ k. not (is_angle k)) x → (y : List ℕ) × (c ≡ y ++ 60 ∷ tail)
inside [] c [] tail e f = absurd (let h : ◌≡◌ {A = ℕ} 62 60 = cc in omega (arith, h))
inside [] c (d ∷ b) tail e f = (b, cc)
inside (k ∷ x) c [] tail e f = absurd (no_less k f.0 cc)
  where
    no_less : (k : ℕ) → not (is_angle k) ≡ true → k ≡ 60 → ⊥
    no_less k f g = grind arith
inside (k ∷ x) c (d ∷ b) tail e f = let h : x ++ 62 ∷ c ≡ b ++ 60 ∷ tail = cc in inside x c b tail h f.1

later : (b x c d tail : List ℕ) → b ++ 60 ∷ (x ++ 62 ∷ c) ≡ d ++ 60 ∷ tail → Each (λ k. not (is_angle k)) x → length b < length d → (y : List ℕ) × (c ≡ y ++ 60 ∷ tail)
later [] x c [] tail e f lt = absurd (omega arith)
later [] x c (k ∷ d) tail e f lt = let h : x ++ 62 ∷ c ≡ d ++ 60 ∷ tail = cc in inside x c d tail h f
later (j ∷ b) x c [] tail e f lt = absurd (omega arith)
later (j ∷ b) x c (k ∷ d) tail e f lt = let h : b ++ 60 ∷ (x ++ 62 ∷ c) ≡ d ++ 60 ∷ tail = cc in later b x c d tail h f (omega arith)

record SameAngle (b d x y : List ℕ) : Type 0 where
  before : b ≡ d
  inner : x ≡ y

one_last : (b x c d y k t : List ℕ) → IsLastAngle b x c t → IsLastAngle d y k t → SameAngle b d x y
one_last b x c d y k t g h = elim (cases_lt (length b) (length d)) [
  | inl lt ↦ let z = later b x c d (y ++ 62 ∷ k) w g.has.inner lt in absurd (g.last z.0 y k (record { whole = z.1; inner = h.has.inner; at = h.has.at }))
  | inr ge ↦ elim (cases_lt (length d) (length b)) [
    | inl lt ↦ let z = later d y k b (x ++ 62 ∷ c) (sym w) h.has.inner lt in absurd (h.last z.0 x c (record { whole = z.1; inner = g.has.inner; at = g.has.at }))
    | inr le ↦
        let e = same_length b d (60 ∷ (x ++ 62 ∷ c)) (60 ∷ (y ++ 62 ∷ k)) w (omega arith) in
        let f = append_cancel_left d (60 ∷ (x ++ 62 ∷ c)) (60 ∷ (y ++ 62 ∷ k)) (ap (λ (u : List ℕ). u ++ 60 ∷ (x ++ 62 ∷ c)) (sym e) ∙ w) in
        let i : x ++ 62 ∷ c ≡ y ++ 62 ∷ k = cc in
        record { before = e; inner = (one_run (λ m. not (is_angle m)) x c y k 62 g.has.inner h.has.inner refl i).front }
  ]
]
  where
    w : b ++ 60 ∷ (x ++ 62 ∷ c) ≡ d ++ 60 ∷ (y ++ 62 ∷ k)
    w = sym g.has.whole ∙ h.has.whole

-- ---- the last one outside

-- where lumps have none, one of them has none
pub none_of : (front : List (List ℕ)) (lump : List ℕ) (back : List (List ℕ)) → HaveNone (front ++ lump ∷ back) → begins_less lump ≡ true → NoAngle lump
none_of [] lump back h b = h.0 b
none_of (f ∷ front) lump back h b = none_of front lump back h.1 b

record SameLump (f g : List (List ℕ)) (l m : List ℕ) : Type 0 where
  front : f ≡ g
  lump : l ≡ m

same_lump : (f g : List (List ℕ)) (l m : List ℕ) (b c : List (List ℕ)) → f ++ l ∷ b ≡ g ++ m ∷ c → begins_less l ≡ true → begins_less m ≡ true → (NoAngle l → ⊥) → (NoAngle m → ⊥)
    → HaveNone b → HaveNone c → SameLump f g l m
same_lump [] [] l m b c e p q n k h i = record { front = refl; lump = cc }
same_lump [] (j ∷ g) l m b c e p q n k h i = let w : b ≡ g ++ m ∷ c = cc in absurd (k (none_of g m c (subst (λ (us : List (List ℕ)). HaveNone us) w h) q))
same_lump (j ∷ f) [] l m b c e p q n k h i = let w : c ≡ f ++ l ∷ b = cc in absurd (n (none_of f l b (subst (λ (us : List (List ℕ)). HaveNone us) w i) p))
same_lump (j ∷ f) (d ∷ g) l m b c e p q n k h i =
    let w : f ++ l ∷ b ≡ g ++ m ∷ c = cc in
    let first : j ≡ d = cc in
    let s = same_lump f g l m b c w p q n k h i in
    record { front = ap (λ (u : List ℕ). u ∷ f) first ∙ ap (λ (us : List (List ℕ)). d ∷ us) s.front; lump = s.lump }

one_of : (b x d y : List ℕ) (us : List (List ℕ)) → IsLastOf b x us → IsLastOf d y us → SameAngle b d x y
one_of b x d y us g h =
    let s = same_lump g.front h.front g.lump h.lump g.back h.back (sym g.lumps_are ∙ h.lumps_are) g.opens h.opens
    (λ n. n g.inner x g.behind g.is.has) (λ n. n h.inner y h.behind h.is.has) g.none_behind h.none_behind in
    let o = one_last g.inner x g.behind h.inner y h.behind h.lump (subst (λ (u : List ℕ). IsLastAngle g.inner x g.behind u) s.lump g.is) h.is in
    record {
      before = g.before_is ∙ ap (λ (us : List (List ℕ)). joined us ++ g.inner) s.front ∙ ap (λ (u : List ℕ). joined h.front ++ u) o.before ∙ sym h.before_is;
      inner = o.inner;
    }

one_address_angle : (b x d y t : List ℕ) → IsAddressAngle b x t → IsAddressAngle d y t → SameAngle b d x y
one_address_angle b x d y t (Outside g) (Outside h) =
    one_of b x d y h.lumps (subst (λ (us : List (List ℕ)). IsLastOf b x us) (one_row g.lumps h.lumps t g.are h.are) g.is) h.is
one_address_angle b x d y t (Outside g) (Anywhere n k h) = absurd (n b x g)
one_address_angle b x d y t (Anywhere n c g) (Outside h) = absurd (n d y h)
one_address_angle b x d y t (Anywhere n c g) (Anywhere m k h) = one_last b x c d y k t g h

-- ---- names, emails, elements

one_name_before : (before : List ℕ) (x y : Option (List ℕ)) → IsNameBefore before x → IsNameBefore before y → x ≡ y
one_name_before before _ _ (Phrase s g p) (Phrase t h q) = ap (λ (u : List ℕ). Some u) (one_phrase s t before g h)
one_name_before before _ _ (Phrase s g p) (AsItStands n t h) = absurd (p (n s g))
one_name_before before _ _ (AsItStands n s g) (Phrase t h q) = absurd (q (n t h))
one_name_before before _ _ (AsItStands n s g) (AsItStands m t h) = ap (λ (u : List ℕ). some_text (trimmed u)) (words.one_text_between edges.Quotes false (one_line before) s t g h)

one_email : (x e f : List ℕ) → IsEmailIn x e → IsEmailIn x f → e ≡ f
one_email x _ _ (OneInside a g) (OneInside b h) = ap (λ (u : Address). u.email) (one_one a b (in_angles x) g h)
one_email x _ _ (OneInside a g) (AsWritten n) = absurd (n a g)
one_email x _ _ (AsWritten n) (OneInside a g) = absurd (n a g)
one_email x _ _ (AsWritten n) (AsWritten m) = refl

one_read : (t : List ℕ) (a b : Option Address) → ReadsAs t a → ReadsAs t b → a ≡ b
one_read t _ _ (Strict a g u) (Strict b h v) = ap (λ (u : Address). Some u) (one_one a b t g h)
one_read t _ _ (Strict a g u) (InAngle d y l f n h i j) = absurd (u (n a g))
one_read t _ _ (Strict a g u) (Bare n h i) = absurd (u (n a g))
one_read t _ _ (Strict a g u) (PassedOver n h i) = absurd (u (n a g))
one_read t _ _ (InAngle b x m e n g i j) (Strict a h u) = absurd (u (n a h))
one_read t _ _ (InAngle b x m e n g i j) (InAngle d y l f o h k p) =
    let s = one_address_angle b x d y t g h in
    let name = one_name_before d m l (subst (λ (u : List ℕ). IsNameBefore u m) s.before i) k in
    let email = one_email y e f (subst (λ (u : List ℕ). IsEmailIn u e) s.inner j) p in
    ap (λ (u : Option (List ℕ)). Some (record { name = u; email = e })) name ∙ ap (λ (u : List ℕ). Some (record { name = l; email = u })) email
one_read t _ _ (InAngle b x m e n g i j) (Bare o h k) = absurd (h b x g)
one_read t _ _ (InAngle b x m e n g i j) (PassedOver o h k) = absurd (h b x g)
one_read t _ _ (Bare n g i) (Strict a h u) = absurd (u (n a h))
one_read t _ _ (Bare n g i) (InAngle d y l f o h k p) = absurd (g d y h)
one_read t _ _ (Bare n g i) (Bare o h j) = refl
one_read t _ _ (Bare n g i) (PassedOver o h j) = absurd (j i)
one_read t _ _ (PassedOver n g i) (Strict a h u) = absurd (u (n a h))
one_read t _ _ (PassedOver n g i) (InAngle d y l f o h k p) = absurd (g d y h)
one_read t _ _ (PassedOver n g i) (Bare o h j) = absurd (i j)
one_read t _ _ (PassedOver n g i) (PassedOver o h j) = refl

one_element : (t : List ℕ) (a b : Option Address) → IsElementRead t a → IsElementRead t b → a ≡ b
one_element t a b g h =
    one_read h.rest a b (subst (λ (u : List ℕ). ReadsAs u a) (one_behind g.rest h.rest t g.behind h.behind) g.reads) h.reads

-- a text has one list of addresses, as far as they read
pub one_loose : (a b : List Address) (t : List ℕ) → AreLoose a t → AreLoose b t → a ≡ b
one_loose a b t g h =
    let l = one_reading lump_determined g.lumps h.lumps t g.are h.are in
    let r = zip_one IsElementRead one_element (elements_of h.lumps) g.read h.read (subst (λ (u : List (Option (List ℕ))). AllZip IsElementRead (elements_of u) g.read) l g.each) h.each in
    g.addresses_are ∙ ap (flat_map option_to_list) r ∙ sym h.addresses_are

-- ---- what a raw value reads as

-- a list by the grammar that tears no encoded word isn't read as far as it reads
no_list : (raw : List ℕ) (list : List Address) → IsAddressesForm raw (Some list) → IsUntorn (raw_form raw) → IsNoList raw → ⊥
no_list raw list g u (inl n) = let e = one_addresses raw (Some list) None g n in absurd cc
no_list raw list g u (inr k) = u k

no_groups : (raw : List ℕ) (list : List Group) → IsGroupsForm raw (Some list) → IsUntorn (raw_form raw) → IsNoList raw → ⊥
no_groups raw list g u (inl n) = let e = one_groups raw (Some list) None g n in absurd cc
no_groups raw list g u (inr k) = u k

-- two readings of a raw value as addresses are the same
pub one_loose_addresses : (raw : List ℕ) (x y : Option (List Address)) → IsLooseAddressesForm raw x → IsLooseAddressesForm raw y → x ≡ y
one_loose_addresses raw _ _ (loose.ByGrammar s g u) (loose.ByGrammar t h v) = one_addresses raw (Some s) (Some t) g h
one_loose_addresses raw _ _ (loose.ByGrammar s g u) (loose.AsFar n t h) = absurd (no_list raw s g u n)
one_loose_addresses raw _ _ (loose.AsFar n s g) (loose.ByGrammar t h v) = absurd (no_list raw t h v n)
one_loose_addresses raw _ _ (loose.AsFar n s g) (loose.AsFar m t h) = ap some_list (one_loose s t (raw_form raw) g h)

-- two readings of a raw value as groups are the same
pub one_loose_groups : (raw : List ℕ) (x y : Option (List Group)) → IsLooseGroupsForm raw x → IsLooseGroupsForm raw y → x ≡ y
one_loose_groups raw _ _ (loose.GroupsByGrammar s g u) (loose.GroupsByGrammar t h v) = one_groups raw (Some s) (Some t) g h
one_loose_groups raw _ _ (loose.GroupsByGrammar s g u) (loose.GroupsAsFar n t h) = absurd (no_groups raw s g u n)
one_loose_groups raw _ _ (loose.GroupsAsFar n s g) (loose.GroupsByGrammar t h v) = absurd (no_groups raw t h v n)
one_loose_groups raw _ _ (loose.GroupsAsFar n s g) (loose.GroupsAsFar m t h) = ap loose.one_group (one_loose s t (raw_form raw) g h)
