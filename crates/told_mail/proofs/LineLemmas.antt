-- What holds of lines that are found by their names.
use Rattle.std.proofs.Common.{◌≡◌, ℕ, ◌+◌, ◌&&◌, zero, suc, cond, Bool, true, false, not, List, [], ◌∷◌, ◌++◌, Option, Some, None, Vec, Global}
use Rattle.std.proofs.Common.{map, drop, filter, refl, sym, ap, ◌∙◌, subst, arith}
use Rattle.std.proofs.Common.{eqb, is_some, unwrap_or, if◌then◌else◌, nat_cmp, bytes_eq}
use Rattle.std.proofs.lemmas.Map.Text.{is_eq-slice_cmp}
use Rattle.std.proofs.lemmas.Slice.Eq.{bytes_eq-Decides}
use Rattle.std.specs.BTreeMap.{BTreeMap, insert_entry, is_at}
use Rattle.std.specs.BTreeSet.{insert_key}
use Rattle.std.specs.List.{filter_map, cons_option}
use Rattle.std.specs.Map.{lookup, keys_of}
use Rattle.std.specs.Ordering.{is_eq, match_ordering}
use Rattle.std.specs.Cmp.Lexicographic.{slice_cmp}
use Rattle.std.specs.Option.{option_and_then}
use Rattle.std.specs.Prelude.{slice_get}
use Rattle.std.specs.declared.cmp.Ordering.{Ordering}
use Rattle.std.specs.declared.cmp.Ordering.TheVariants.{Less, Equal, Greater}
use Rattle.imap_types.specs.declared.response.Response.{Response}
use Rattle.told_mail.specs.Lists as lists
use Rattle.told_folder.specs.Keyed.{last_of}
use Rattle.told_mail.specs.Lists.{line_of, line_for, names_told, in_order, is_inbox, inbox_first}
use Rattle.told_mail.specs.Mail.{is_same}
use Rattle.told_mail.specs.reading.Lines.{StandsAt, AreLinesFrom, is_picked}
use Rattle.told_mail.specs.reading.Names.{names_in, place_in}

-- one line more at the front
pub line_first : (q : List ℕ) (r : Response) (rs : List Response) (l : lists.Line) → line_of r ≡ Some l
    → line_for q (r ∷ rs) ≡ (if is_same l.name q then Some (unwrap_or (line_for q rs) l) else line_for q rs)
line_first q r rs l e = ap (λ (o : Option lists.Line). last_of (filter (λ k. is_same k.name q) (cons_option o (filter_map line_of rs)))) e
    ∙ elim (is_same l.name q) as (λ b. last_of (if b then l ∷ filter (λ k. is_same k.name q) (filter_map line_of rs) else filter (λ k. is_same k.name q) (filter_map line_of rs))
    ≡ (if b then Some (unwrap_or (line_for q rs) l) else line_for q rs)) [ true ↦ refl | false ↦ refl ]

-- a response that is no line
pub line_passed : (q : List ℕ) (r : Response) (rs : List Response) → line_of r ≡ None → line_for q (r ∷ rs) ≡ line_for q rs
line_passed q r rs e = ap (λ (o : Option lists.Line). last_of (filter (λ k. is_same k.name q) (cons_option o (filter_map line_of rs)))) e

-- a line adds its name to those of the responses after it
pub names_first : (r : Response) (rs : List Response) (l : lists.Line) → line_of r ≡ Some l → names_told (r ∷ rs) ≡ insert_key (slice_cmp nat_cmp) (names_told rs) l.name
names_first r rs l e = ap (λ (o : Option lists.Line). in_order (map (λ k. k.name) (cons_option o (filter_map line_of rs)))) e

-- a response that is no line adds no name
pub names_passed : (r : Response) (rs : List Response) → line_of r ≡ None → names_told (r ∷ rs) ≡ names_told rs
names_passed r rs e = ap (λ (o : Option lists.Line). in_order (map (λ k. k.name) (cons_option o (filter_map line_of rs)))) e

-- the place of the later line of the name, else of this one
pub stands_first : (rs : List Response) (o : Option lists.Line) (w : Option ℕ) (at : ℕ) (l : lists.Line) → StandsAt rs o w → option_and_then line_of (slice_get rs at) ≡ Some l
    → StandsAt rs (Some (unwrap_or o l)) (Some (unwrap_or w at))
stands_first rs o None at l s e = (l, ap (λ (p : Option lists.Line). Some (unwrap_or p l)) s, e)
stands_first rs o (Some j) at l s e = (s.0, ap (λ (p : Option lists.Line). Some (unwrap_or p l)) s.1, s.2)

more : (i : ℕ) → suc (i + 1) ≡ suc i + 1
more i = omega arith

-- the response at a place, and those from it on
pub from_place : (rs : List Response) (at : ℕ) (l : lists.Line) → option_and_then line_of (slice_get rs at) ≡ Some l → (r : Response) × (drop at rs ≡ r ∷ drop (at + 1) rs)
    × (line_of r ≡ Some l)
from_place [] at l e = absurd (cc)
from_place (r ∷ rs) zero l e = (r, refl, e)
from_place (r ∷ rs) (suc at) l e = let rest = from_place rs at l e in (rest.0, rest.1 ∙ ap (λ (j : ℕ). rest.0 ∷ drop j (r ∷ rs)) (more at), rest.2)

-- what no response but a line changes
pub passed : {X : Type 0} (f : List Response → X) → ((r : Response) (rs : List Response) → line_of r ≡ None → f (r ∷ rs) ≡ f rs) → (rs : List Response) (at : ℕ)
    → option_and_then line_of (slice_get rs at) ≡ None → f (drop at rs) ≡ f (drop (at + 1) rs)
passed f step [] at e = ap f (drop_empty at ∙ sym (drop_empty (at + 1))) where
  drop_empty : (i : ℕ) → ◌≡◌ {A = List Response} (drop i []) []
  drop_empty zero = refl
  drop_empty (suc i) = refl
passed f step (r ∷ rs) zero e = step r rs e
passed f step (r ∷ rs) (suc at) e = passed f step rs at e ∙ ap (λ (j : ℕ). f (drop j (r ∷ rs))) (more at)

-- ---- what is found after one name more

same_sym : (a b : List ℕ) → is_same a b ≡ is_same b a
same_sym [] [] = refl
same_sym [] (y ∷ ys) = refl
same_sym (x ∷ xs) [] = refl
same_sym (x ∷ xs) (y ∷ ys) = ap (λ b. eqb x y && b) (same_sym xs ys) ∙ ap (λ b. b && is_same ys xs) (eqb_sym x y) where
  eqb_sym : (m n : ℕ) → eqb m n ≡ eqb n m
  eqb_sym m n = grind arith

-- texts compare as equal exactly where they are the same
pub at_is : (q k : List ℕ) → is_eq (slice_cmp nat_cmp q k) ≡ is_same k q
at_is q k = is_eq-slice_cmp q k ∙ same_sym q k

same_list : (a b : List ℕ) → is_same a b ≡ true → a ≡ b
same_list a b e = (bytes_eq-Decides a b).0 e

abbrev pub at : List ℕ → Vec ℕ Global → Bool
at q x = is_at (λ (v : Vec ℕ Global). slice_cmp nat_cmp q v.items) x

abbrev pub by_items : Vec ℕ Global → Vec ℕ Global → Ordering
by_items x y = slice_cmp nat_cmp x.items y.items

-- after a name is inserted with a number it has that number, and every other name has its number as before
pub place_put : (es : List (Vec ℕ Global × ℕ)) (k : Vec ℕ Global) (v : ℕ) (q : List ℕ)
    → lookup (at q) (insert_entry by_items es k v) ≡ (if is_same k.items q then Some v else lookup (at q) es)
place_put [] k v q = ap (λ b. cond b (Some v) None) (at_is q k.items)
place_put (e ∷ es) k v q = by (slice_cmp nat_cmp k.items e.0.items) refl (place_put es k v q)
  where
    by : (o : Ordering) → slice_cmp nat_cmp k.items e.0.items ≡ o → lookup (at q) (insert_entry by_items es k v) ≡ (if is_same k.items q then Some v else lookup (at q) es)
        → lookup (at q) (match_ordering o ((k, v) ∷ e ∷ es) ((e.0, v) ∷ es) (e ∷ insert_entry by_items es k v)) ≡ (if is_same k.items q then Some v else lookup (at q) (e ∷ es))
    by Less s h = ap (λ b. cond b (Some v) (lookup (at q) (e ∷ es))) (at_is q k.items)
    by Equal s h =
        let keys : k.items ≡ e.0.items = same_list k.items e.0.items (sym (is_eq-slice_cmp k.items e.0.items) ∙ ap is_eq s) in
        let here : at q e.0 ≡ is_same k.items q = at_is q e.0.items ∙ ap (λ (u : List ℕ). is_same u q) (sym keys) in
        ap (λ b. cond b (Some v) (lookup (at q) es)) here
        ∙ elim (is_same k.items q) as (λ b. is_same k.items q ≡ b → cond b (Some v) (lookup (at q) es) ≡ (if b then Some v else cond (at q e.0) (Some e.1) (lookup (at q) es))) [
          | true ↦ λ f. refl
          | false ↦ λ f. sym (ap (λ b. cond b (Some e.1) (lookup (at q) es)) (here ∙ f))
        ] refl
    by Greater s h =
        ap (λ (o : Option ℕ). cond (at q e.0) (Some e.1) o) h
        ∙ elim (at q e.0) as (λ b. at q e.0 ≡ b → cond b (Some e.1) (if is_same k.items q then Some v else lookup (at q) es)
        ≡ (if is_same k.items q then Some v else cond b (Some e.1) (lookup (at q) es))) [
          | true ↦ λ f.
              let keys : e.0.items ≡ q = same_list e.0.items q (sym (at_is q e.0.items) ∙ f) in
              let apart : is_same k.items q ≡ false = ap (λ (u : List ℕ). is_same k.items u) (sym keys) ∙ sym (is_eq-slice_cmp k.items e.0.items) ∙ ap is_eq s in
              sym (ap (λ b. if b then Some v else Some e.1) apart)
          | false ↦ λ f. refl
        ] refl

-- after a name is inserted, the map's names are those before with it in its place
pub names_put : (es : List (Vec ℕ Global × ℕ)) (k : Vec ℕ Global) (v : ℕ)
    → map (λ (x : Vec ℕ Global). x.items) (keys_of (insert_entry by_items es k v)) ≡ insert_key (slice_cmp nat_cmp) (map (λ (x : Vec ℕ Global). x.items) (keys_of es)) k.items
names_put [] k v = refl
names_put (e ∷ es) k v = by (slice_cmp nat_cmp k.items e.0.items) (names_put es k v)
  where
    by : (o : Ordering)
        → map (λ (x : Vec ℕ Global). x.items) (keys_of (insert_entry by_items es k v)) ≡ insert_key (slice_cmp nat_cmp) (map (λ (x : Vec ℕ Global). x.items) (keys_of es)) k.items
        → map (λ (x : Vec ℕ Global). x.items) (keys_of (match_ordering o ((k, v) ∷ e ∷ es) ((e.0, v) ∷ es) (e ∷ insert_entry by_items es k v)))
        ≡ match_ordering o (k.items ∷ e.0.items ∷ map (λ (x : Vec ℕ Global). x.items) (keys_of es)) (e.0.items ∷ map (λ (x : Vec ℕ Global). x.items) (keys_of es))
        (e.0.items ∷ insert_key (slice_cmp nat_cmp) (map (λ (x : Vec ℕ Global). x.items) (keys_of es)) k.items)
    by Less h = refl
    by Equal h = refl
    by Greater h = ap (λ (u : List (List ℕ)). e.0.items ∷ u) h

-- ---- names that are picked

-- a filter after another leaves what passes both
pub filter_both : (p q : List ℕ → Bool) (xs : List (List ℕ)) → filter p (filter q xs) ≡ filter (λ x. p x && q x) xs
filter_both p q [] = refl
filter_both p q (x ∷ xs) =
    elim (q x) as (λ b. filter p (if b then x ∷ filter q xs else filter q xs) ≡ (if p x && b then x ∷ filter (λ y. p y && q y) xs else filter (λ y. p y && q y) xs)) [
      | true ↦ elim (p x) as (λ b. (if b then x ∷ filter p (filter q xs) else filter p (filter q xs))
          ≡ (if b && true then x ∷ filter (λ y. p y && q y) xs else filter (λ y. p y && q y) xs)) [
            | true ↦ ap (λ (zs : List (List ℕ)). x ∷ zs) (filter_both p q xs)
            | false ↦ filter_both p q xs
          ]
      | false ↦ elim (p x) as (λ b. filter p (filter q xs) ≡ (if b && false then x ∷ filter (λ y. p y && q y) xs else filter (λ y. p y && q y) xs)) [
        | true ↦ filter_both p q xs
        | false ↦ filter_both p q xs
      ]
    ]

-- two tests that say the same of each text leave the same
pub filter_same : (p q : List ℕ → Bool) → ((x : List ℕ) → p x ≡ q x) → (xs : List (List ℕ)) → filter p xs ≡ filter q xs
filter_same p q same [] = refl
filter_same p q same (x ∷ xs) = ap (λ b. if b then x ∷ filter p xs else filter p xs) (same x) ∙ ap (λ (zs : List (List ℕ)). if q x then x ∷ zs else zs) (filter_same p q same xs)

-- the later place of a name is kept
pub place_kept : (P : List ℕ → Option ℕ) (name q : List ℕ) (last at : ℕ) → last ≡ unwrap_or (P name) at
    → (if is_same name q then Some last else P q) ≡ (if is_same name q then Some (unwrap_or (P q) at) else P q)
place_kept P name q last at is =
    elim (is_same name q) as (λ b. is_same name q ≡ b → (if b then Some last else P q) ≡ (if b then Some (unwrap_or (P q) at) else P q)) [
      | true ↦ λ e. ap (λ (n : ℕ). Some n) (is ∙ ap (λ (u : List ℕ). unwrap_or (P u) at) (same_list name q e))
      | false ↦ λ e. refl
    ] refl

-- ---- the lines from a place on

-- when the line at a place is added, under its place unless a later line has the name, the map is that of the lines from there on
pub lines_more : (rs : List Response) (at : ℕ) (lines new : BTreeMap (Vec ℕ Global) ℕ) (l : lists.Line) (name : List ℕ) → name ≡ l.name
    → option_and_then line_of (slice_get rs at) ≡ Some l → AreLinesFrom rs (at + 1) lines → names_in new ≡ insert_key (slice_cmp nat_cmp) (names_in lines) name
    → ((q : List ℕ) → place_in new q ≡ (if is_same name q then Some (unwrap_or (place_in lines q) at) else place_in lines q)) → AreLinesFrom rs at new
lines_more rs at lines new l name same e o names places =
    let f = from_place rs at l e in
    let rest : List Response = drop (at + 1) rs in
    record {
      names = names ∙ ap (λ (ns : List (List ℕ)). insert_key (slice_cmp nat_cmp) ns name) o.names ∙ ap (λ (n : List ℕ). insert_key (slice_cmp nat_cmp) (names_told rest) n) same
          ∙ sym (names_first f.0 rest l f.2) ∙ ap (λ (qs : List Response). names_told qs) (sym f.1);
      places = λ q.
          let line : line_for q (drop at rs) ≡ (if is_same l.name q then Some (unwrap_or (line_for q rest) l) else line_for q rest) = ap (λ (qs : List Response). line_for q qs) f.1
          ∙ line_first q f.0 rest l f.2 in
          let place : place_in new q ≡ (if is_same l.name q then Some (unwrap_or (place_in lines q) at) else place_in lines q) = places q
          ∙ ap (λ (n : List ℕ). if is_same n q then Some (unwrap_or (place_in lines q) at) else place_in lines q) same in
          subst (λ (o : Option lists.Line). StandsAt rs o (place_in new q)) (sym line)
          (subst (λ (w : Option ℕ). StandsAt rs (if is_same l.name q then Some (unwrap_or (line_for q rest) l) else line_for q rest) w) (sym place)
          (elim (is_same l.name q) as (λ b. StandsAt rs (if b then Some (unwrap_or (line_for q rest) l) else line_for q rest)
          (if b then Some (unwrap_or (place_in lines q) at) else place_in lines q)) [
            | true ↦ stands_first rs (line_for q rest) (place_in lines q) at l (o.places q) e
            | false ↦ o.places q
          ]));
    }

-- where the response at a place is no line, the lines from the place on are those after it
pub lines_passed : (rs : List Response) (at : ℕ) (lines : BTreeMap (Vec ℕ Global) ℕ) → option_and_then line_of (slice_get rs at) ≡ None → AreLinesFrom rs (at + 1) lines
    → AreLinesFrom rs at lines
lines_passed rs at lines e o = record {
  names = o.names ∙ sym (passed (λ (qs : List Response). names_told qs) names_passed rs at e);
  places = λ q. subst (λ (l : Option lists.Line). StandsAt rs l (place_in lines q)) (sym (passed (λ (qs : List Response). line_for q qs) (line_passed q) rs at e)) (o.places q);
}

drop_none : {X : Type 0} (xs : List X) → drop 0 xs ≡ xs
drop_none [] = refl
drop_none (x ∷ xs) = refl

-- the place that a name has is that of its last line
pub found_line : (rs : List Response) (q : List ℕ) (at : ℕ) (w : Option ℕ) → StandsAt rs (line_for q (drop 0 rs)) w → Some at ≡ w
    → option_and_then line_of (slice_get rs at) ≡ line_for q rs
found_line rs q at w s e =
    let t : StandsAt rs (line_for q (drop 0 rs)) (Some at) = subst (λ (o : Option ℕ). StandsAt rs (line_for q (drop 0 rs)) o) (sym e) s in
    t.2 ∙ sym t.1 ∙ ap (λ (qs : List Response). line_for q qs) (drop_none rs)

-- where a name has no place, no line has the name
pub no_line : (rs : List Response) (q : List ℕ) (w : Option ℕ) → StandsAt rs (line_for q (drop 0 rs)) w → None ≡ w → None ≡ line_for q rs
no_line rs q w s e =
    let t : line_for q (drop 0 rs) ≡ None = subst (λ (o : Option ℕ). StandsAt rs (line_for q (drop 0 rs)) o) (sym e) s in
    sym t ∙ ap (λ (qs : List Response). line_for q qs) (drop_none rs)

last_same : (name : List ℕ) (ls : List lists.Line) (l : lists.Line) → last_of (filter (λ k. is_same k.name name) ls) ≡ Some l → l.name ≡ name
last_same name [] l e = absurd (cc)
last_same name (k ∷ ks) l e =
    let rest : List lists.Line = filter (λ z. is_same z.name name) ks in
    elim (is_same k.name name) as (λ b. is_same k.name name ≡ b → last_of (if b then k ∷ rest else rest) ≡ Some l → l.name ≡ name) [
      | true ↦ λ t f. elim (last_of rest) as (λ o. last_of rest ≡ o → Some (unwrap_or o k) ≡ Some l → l.name ≡ name) [
        | None ↦ λ g h. ap (λ (z : lists.Line). z.name) (sym (one_line k l h)) ∙ same_list k.name name t
        | Some z ↦ λ g h. last_same name ks l (g ∙ h)
      ] refl f
      | false ↦ λ t f. last_same name ks l f
    ] refl e where
      one_line : (a b : lists.Line) → Some a ≡ Some b → a ≡ b
      one_line a b h = cc

-- the line of a name has it
pub line_name : (name : List ℕ) (rs : List Response) (l : lists.Line) → line_for name rs ≡ Some l → l.name ≡ name
line_name name rs l e = last_same name (filter_map line_of rs) l e

has_place : (rs : List Response) (o : Option lists.Line) (w : Option ℕ) → StandsAt rs o w → is_some w ≡ is_some o
has_place rs o None s = sym (ap is_some s)
has_place rs o (Some at) s = sym (ap is_some s.1)

-- a name has a place where a line has it
pub has_line_is : (rs : List Response) (lines : BTreeMap (Vec ℕ Global) ℕ) (q : List ℕ) → AreLinesFrom rs 0 lines → is_some (place_in lines q) ≡ is_some (line_for q rs)
has_line_is rs lines q a = has_place rs _ _ (a.places q) ∙ ap (λ (qs : List Response). is_some (line_for q qs)) (drop_none rs)

-- the names told from the first response on are all that are told
pub names_whole : (rs : List Response) → names_told (drop 0 rs) ≡ names_told rs
names_whole rs = ap (λ (qs : List Response). names_told qs) (drop_none rs)

-- INBOX, and then the other names
pub picked : (numbers : BTreeMap (Vec ℕ Global) ℕ) (ns : List (List ℕ))
    → filter (is_picked numbers true) ns ++ filter (is_picked numbers false) ns ≡ inbox_first (filter (λ name. not (is_some (place_in numbers name))) ns)
picked numbers ns =
    let p : List ℕ → Bool = λ name. not (is_some (place_in numbers name)) in
    ap (λ (zs : List (List ℕ)). zs ++ filter (is_picked numbers false) ns) (sym (filter_both is_inbox p ns))
    ∙ ap (λ (zs : List (List ℕ)). filter is_inbox (filter p ns) ++ zs) (sym (filter_both (λ name. not (is_inbox name)) p ns))
