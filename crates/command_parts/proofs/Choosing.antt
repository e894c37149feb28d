-- One of several fixed texts, of which none begins another, is read as what it is.
use Rattle.std.proofs.Common.{◌≡◌, ℕ, zero, suc, ◌+◌, ◌-◌, ◌<◌, ◌≤◌, max, Bool, true, false, ◌&&◌, List, [], ◌∷◌, ◌++◌, length, map, take, drop, get_or, cond, refl, sym, ap, subst}
use Rattle.std.proofs.Common.{◌∙◌, arith, inl, inr}
use Rattle.std.specs.Prelude.{◌⊎◌, ◌==◌, nat_lt, Result, Ok, Err}
use Rattle.std.specs.List.{list_all}
use Rattle.std.proofs.lemmas.Bool.{cond-true, cond-false, eqb-true, eqb-false, eq-eqb, ne_eqb, and_parts, cases_lt}
use Rattle.std.proofs.lemmas.List.{length-append, length-map, length-take-le, take-append-drop, take_all, drop_at, drop_more, length-drop, map-append}
use Rattle.imap_types.proofs.EachLemmas.{each_all, each_parts}
use Rattle.imap_types.specs.Octets.{lower}
use Rattle.imap_types.specs.Texts.{Each, IsWord, plain_octets}
use Rattle.imap_values.proofs.Cuts.{small, small_lower, plain_small}
use Rattle.command_parts.specs.declared.no_command.NoCommand.{NoCommand}
use Rattle.command_parts.specs.declared.no_command.NoCommand.TheVariants.{NeedMore, WantsLiteral, Bad}
use Rattle.command_parts.specs.declared.fixed_text.FixedText.{FixedText}
use Rattle.command_parts.specs.reading.FixedTexts.{fixed_text, agreeing, choose}
use Rattle.command_parts.proofs.Readers.{ends_with_line, stop_of, IsOpen, IsWrong, Stopped, IsReader}

-- ---- tables of texts

abbrev pub OneOf : FixedText → List FixedText → Type 0
OneOf k [] = ⊥
OneOf k (x ∷ xs) = (k ≡ x) ⊎ OneOf k xs

-- one of the texts, in letters of any case
abbrev pub Choices : List FixedText → FixedText → List ℕ → Type 0
Choices ks k t = OneOf k ks × IsWord (fixed_text k) t

-- two texts differ at a place that both have
abbrev pub apart : List ℕ → List ℕ → Bool
apart [] b = false
apart (x ∷ a) [] = false
apart (x ∷ a) (y ∷ b) = cond (x == y) (apart a b) true

abbrev pub all_apart : FixedText → List FixedText → Bool
all_apart k [] = true
all_apart k (x ∷ xs) = apart (fixed_text k) (fixed_text x) && all_apart k xs

-- an octet of a text in lower case; an LF stands at its end alone, where there is one
abbrev pub is_plain : ℕ → Bool
is_plain x = (lower x == x) && nat_lt x 256

abbrev pub line_last : List ℕ → Bool
line_last [] = true
line_last (x ∷ []) = true
line_last (x ∷ y ∷ t) = cond (x == 10) false (line_last (y ∷ t))

-- of each two one differs from the other, and each is plain
abbrev pub is_table : List FixedText → Bool
is_table [] = true
is_table (k ∷ ks) = (list_all is_plain (fixed_text k) && line_last (fixed_text k)) && (all_apart k ks && is_table ks)

apart_from : (k x : FixedText) (xs : List FixedText) → all_apart x xs ≡ true → OneOf k xs → apart (fixed_text x) (fixed_text k) ≡ true
apart_from k x [] e h = absurd h
apart_from k x (y ∷ xs) e (inl h) = ap (λ (z : FixedText). apart (fixed_text x) (fixed_text z)) h ∙ (and_parts (apart (fixed_text x) (fixed_text y)) (all_apart x xs) e).0
apart_from k x (y ∷ xs) e (inr h) = apart_from k x xs (and_parts (apart (fixed_text x) (fixed_text y)) (all_apart x xs) e).1 h

pub record TableParts (k : FixedText) (ks : List FixedText) : Type 0 where
  pub plain : list_all is_plain (fixed_text k) ≡ true
  pub line : line_last (fixed_text k) ≡ true
  pub apart : all_apart k ks ≡ true
  pub rest : is_table ks ≡ true

table_parts : (k : FixedText) (ks : List FixedText) → is_table (k ∷ ks) ≡ true → TableParts k ks
table_parts k ks e =
    let a = and_parts (list_all is_plain (fixed_text k) && line_last (fixed_text k)) (all_apart k ks && is_table ks) e in
    let b = and_parts (list_all is_plain (fixed_text k)) (line_last (fixed_text k)) a.0 in
    let c = and_parts (all_apart k ks) (is_table ks) a.1 in
    record { plain = b.0; line = b.1; apart = c.0; rest = c.1 }

-- what holds of one of the texts
text_plain : (ks : List FixedText) (k : FixedText) → is_table ks ≡ true → OneOf k ks → Each is_plain (fixed_text k)
text_plain [] k e h = absurd h
text_plain (x ∷ xs) k e (inl h) = subst (λ (z : FixedText). Each is_plain (fixed_text z)) (sym h) (each_all is_plain (fixed_text x) (table_parts x xs e).plain)
text_plain (x ∷ xs) k e (inr h) = text_plain xs k (table_parts x xs e).rest h

text_line : (ks : List FixedText) (k : FixedText) → is_table ks ≡ true → OneOf k ks → line_last (fixed_text k) ≡ true
text_line [] k e h = absurd h
text_line (x ∷ xs) k e (inl h) = ap (λ (z : FixedText). line_last (fixed_text z)) h ∙ (table_parts x xs e).line
text_line (x ∷ xs) k e (inr h) = text_line xs k (table_parts x xs e).rest h

-- ---- spellings

plain_lower : (w : List ℕ) → Each is_plain w → map lower w ≡ w
plain_lower [] h = refl
plain_lower (x ∷ w) h =
    let e : lower x ≡ x = eqb-true (lower x) x (and_parts (lower x == x) (nat_lt x 256) h.0).0 in
    ap (λ (n : ℕ). n ∷ map lower w) e ∙ ap (λ (u : List ℕ). x ∷ u) (plain_lower w h.1)

-- a spelling of a plain text is of octets as they are sent
word_small : (w t : List ℕ) → Each is_plain w → IsWord w t → Each small t
word_small w [] h e = tt
word_small [] (c ∷ t) h e = absurd cc
word_small (x ∷ w) (c ∷ t) h e =
    let first : lower c ≡ x = cc in
    let rest : map lower t ≡ w = cc in
    (small_lower c (ap small first ∙ (and_parts (lower x == x) (nat_lt x 256) h.0).1), word_small w t h.1 rest)

lower_line : (c : ℕ) → (lower c == 10) ≡ false → (c == 10) ≡ false
lower_line c e = grind arith

-- a front of a spelling doesn't end with an LF
word_open : (w t more : List ℕ) → line_last w ≡ true → IsWord w (t ++ more) → (more ≡ [] → ⊥) → ends_with_line t ≡ false
word_open w [] more l e proper = refl
word_open [] (c ∷ t) more l e proper = absurd cc
word_open (x ∷ []) (c ∷ []) [] l e proper = absurd (proper refl)
word_open (x ∷ []) (c ∷ []) (d ∷ more) l e proper = absurd cc
word_open (x ∷ y ∷ w) (c ∷ []) more l e proper = by (x == 10) refl
  where
    by : (b : Bool) → (x == 10) ≡ b → (c == 10) ≡ false
    by true g = let f : false ≡ true = sym (cond-true (x == 10) false (line_last (y ∷ w)) g) ∙ l in absurd cc
    by false g = let first : lower c ≡ x = cc in lower_line c (ap (λ (n : ℕ). n == 10) first ∙ g)
word_open (x ∷ []) (c ∷ d ∷ t) more l e proper = absurd cc
word_open (x ∷ y ∷ w) (c ∷ d ∷ t) more l e proper =
    let rest : map lower ((d ∷ t) ++ more) ≡ y ∷ w = cc in
    by (x == 10) refl (λ m. word_open (y ∷ w) (d ∷ t) more m rest proper)
  where
    by : (b : Bool) → (x == 10) ≡ b → (line_last (y ∷ w) ≡ true → ends_with_line (d ∷ t) ≡ false) → ends_with_line (d ∷ t) ≡ false
    by true g k = let f : false ≡ true = sym (cond-true (x == 10) false (line_last (y ∷ w)) g) ∙ l in absurd cc
    by false g k = k (sym (cond-false (x == 10) false (line_last (y ∷ w)) g) ∙ l)

-- ---- how far octets agree with a text

least_by : (m : Bool) (n most : ℕ) → n ≤ most → cond m (suc n) 0 ≤ suc most
least_by true n most h = omega (arith, h)
least_by false n most h = omega arith

agree_text : (w b : List ℕ) → agreeing w b ≤ length w
unfolding agreeing
agree_text [] b = omega arith
agree_text (x ∷ w) [] = omega arith
agree_text (x ∷ w) (c ∷ b) = least_by (lower c == x) (agreeing w b) (length w) (agree_text w b)

agree_octets : (w b : List ℕ) → agreeing w b ≤ length b
unfolding agreeing
agree_octets [] b = omega arith
agree_octets (x ∷ w) [] = omega arith
agree_octets (x ∷ w) (c ∷ b) = least_by (lower c == x) (agreeing w b) (length b) (agree_octets w b)

agree_all : (w t rest : List ℕ) → IsWord w t → agreeing w (t ++ rest) ≡ length w
unfolding agreeing
agree_all [] t rest e = refl
agree_all (x ∷ w) [] rest e = absurd cc
agree_all (x ∷ w) (c ∷ t) rest e =
    let first : lower c ≡ x = cc in
    let more : map lower t ≡ w = cc in
    cond-true (lower c == x) (suc (agreeing w (t ++ rest))) 0 (eq-eqb (lower c) x first) ∙ ap (λ (n : ℕ). suc n) (agree_all w t rest more)

agree_front : (w t more : List ℕ) → IsWord w (t ++ more) → agreeing w t ≡ length t
unfolding agreeing
agree_front [] [] more e = refl
agree_front (x ∷ w) [] more e = refl
agree_front [] (c ∷ t) more e = absurd cc
agree_front (x ∷ w) (c ∷ t) more e =
    let first : lower c ≡ x = cc in
    let rest : map lower (t ++ more) ≡ w = cc in
    cond-true (lower c == x) (suc (agreeing w t)) 0 (eq-eqb (lower c) x first) ∙ ap (λ (n : ℕ). suc n) (agree_front w t more rest)

-- octets and a text agree as far as both go
abbrev Alike : List ℕ → List ℕ → Type 0
Alike [] b = Unit {0}
Alike (y ∷ w) [] = Unit {0}
Alike (y ∷ w) (c ∷ b) = (lower c ≡ y) × Alike w b

alike_whole : (w t rest : List ℕ) → IsWord w t → Alike w (t ++ rest)
alike_whole [] t rest e = tt
alike_whole (y ∷ w) [] rest e = absurd cc
alike_whole (y ∷ w) (c ∷ t) rest e = let more : map lower t ≡ w = cc in (cc, alike_whole w t rest more)

alike_front : (w t more : List ℕ) → IsWord w (t ++ more) → Alike w t
alike_front [] t more e = tt
alike_front (y ∷ w) [] more e = tt
alike_front (y ∷ w) (c ∷ t) more e = let rest : map lower (t ++ more) ≡ w = cc in (cc, alike_front w t more rest)

-- of two octets by one of two texts, the other text agrees with the octet where both texts have the same
less_by : (x y c n most : ℕ) (a : Bool) (m : Bool) → (x == y) ≡ m → lower c ≡ y → cond (x == y) a true ≡ true → (a ≡ true → n < most) → cond (lower c == x) (suc n) 0 < suc most
less_by x y c n most a true g first e k =
    let h : n < most = k (sym (cond-true (x == y) a true g) ∙ e) in
    let same : (lower c == x) ≡ true = eq-eqb (lower c) x (first ∙ sym (eqb-true x y g)) in
    subst (λ (i : ℕ). i < suc most) (sym (cond-true (lower c == x) (suc n) 0 same)) (omega (arith, h))
less_by x y c n most a false g first e k =
    let other : (lower c == x) ≡ false = ne_eqb (lower c) x (λ f. eqb-false x y g (sym f ∙ first)) in
    subst (λ (i : ℕ). i < suc most) (sym (cond-false (lower c == x) (suc n) 0 other)) (omega arith)

-- octets that agree with another text aren't this one
apart_few : (k w b : List ℕ) → apart k w ≡ true → Alike w b → agreeing k b < length k
unfolding agreeing
apart_few [] w b a h = absurd cc
apart_few (x ∷ k) [] b a h = absurd cc
apart_few (x ∷ k) (y ∷ w) [] a h = omega arith
apart_few (x ∷ k) (y ∷ w) (c ∷ b) a h = less_by x y c (agreeing k b) (length k) (apart k w) (x == y) refl h.0 a (λ e. apart_few k w b e h.1)

-- of another text more octets are there than agree
apart_whole : (k w t rest : List ℕ) → apart k w ≡ true → IsWord w t → agreeing k (t ++ rest) < length (t ++ rest)
unfolding agreeing
apart_whole [] w t rest a e = absurd cc
apart_whole (x ∷ k) [] t rest a e = absurd cc
apart_whole (x ∷ k) (y ∷ w) [] rest a e = absurd cc
apart_whole (x ∷ k) (y ∷ w) (c ∷ t) rest a e =
    let first : lower c ≡ y = cc in
    let more : map lower t ≡ w = cc in
    less_by x y c (agreeing k (t ++ rest)) (length (t ++ rest)) (apart k w) (x == y) refl first a (λ f. apart_whole k w t rest f more)

spells_by : (m : Bool) (x c n : ℕ) (w b : List ℕ) → (lower c == x) ≡ m → map lower (take n b) ≡ take n w
    → map lower (take (cond m (suc n) 0) (c ∷ b)) ≡ take (cond m (suc n) 0) (x ∷ w)
spells_by true x c n w b g h = ap (λ (d : ℕ). d ∷ map lower (take n b)) (eqb-true (lower c) x g) ∙ ap (λ (u : List ℕ). x ∷ u) h
spells_by false x c n w b g h = refl

-- as many octets as agree spell the front of the text
agree_spells : (w b : List ℕ) → map lower (take (agreeing w b) b) ≡ take (agreeing w b) w
unfolding agreeing
agree_spells [] b = refl
agree_spells (x ∷ w) [] = refl
agree_spells (x ∷ w) (c ∷ b) = spells_by (lower c == x) x c (agreeing w b) w b refl (agree_spells w b)

first_by : (m : Bool) (n k : ℕ) → cond m (suc n) 0 ≤ 0 → cond m (suc k) 0 ≡ cond m (suc n) 0
first_by true n k le = absurd (omega (arith, le))
first_by false n k le = refl

next_by : (m : Bool) (n k most at : ℕ) → cond m (suc n) 0 < suc most → cond m (suc n) 0 ≤ suc at → (n < most → n ≤ at → k ≡ n) → cond m (suc k) 0 ≡ cond m (suc n) 0
next_by true n k most at few le h = ap (λ (i : ℕ). suc i) (h (omega (arith, few)) (omega (arith, le)))
next_by false n k most at few le h = refl

-- octets up to the first that doesn't agree agree so far, whatever follows
agree_upto : (w b : List ℕ) (at : ℕ) (r : List ℕ) → agreeing w b < length w → agreeing w b ≤ at → at < length b → agreeing w (take at b ++ get_or b at 0 ∷ r) ≡ agreeing w b
unfolding agreeing
agree_upto [] b at r few le lt = absurd (omega (arith, few))
agree_upto (x ∷ w) [] at r few le lt = absurd (omega (arith, lt))
agree_upto (x ∷ w) (c ∷ b) zero r few le lt = first_by (lower c == x) (agreeing w b) (agreeing w r) le
agree_upto (x ∷ w) (c ∷ b) (suc at) r few le lt =
    next_by (lower c == x) (agreeing w b) (agreeing w (take at b ++ get_or b at 0 ∷ r)) (length w) at few le (λ f g. agree_upto w b at r f g (omega (arith, lt)))

-- ---- how one is chosen

abbrev taken : FixedText → List ℕ → Result (FixedText × List ℕ) NoCommand
taken k b = Ok (k, drop (agreeing (fixed_text k) b) b)

abbrev wanting : Result (FixedText × List ℕ) NoCommand
wanting = Err NeedMore

abbrev further : ℕ → FixedText → List FixedText → List ℕ → Result (FixedText × List ℕ) NoCommand
further far k ks b = choose (max far (agreeing (fixed_text k) b)) ks b

choose_one : (far : ℕ) (k : FixedText) (ks : List FixedText) (b : List ℕ) → agreeing (fixed_text k) b ≡ length (fixed_text k) → choose far (k ∷ ks) b ≡ taken k b
unfolding choose
choose_one far k ks b e =
    let n = agreeing (fixed_text k) b in
    cond-true (n == length (fixed_text k)) (taken k b) (cond (n == length b) wanting (further far k ks b)) (eq-eqb n (length (fixed_text k)) e)

choose_more : (far : ℕ) (k : FixedText) (ks : List FixedText) (b : List ℕ) → agreeing (fixed_text k) b < length (fixed_text k) → agreeing (fixed_text k) b ≡ length b
    → choose far (k ∷ ks) b ≡ wanting
unfolding choose
choose_more far k ks b lt e =
    let n = agreeing (fixed_text k) b in
    cond-false (n == length (fixed_text k)) (taken k b) (cond (n == length b) wanting (further far k ks b)) (ne_eqb n (length (fixed_text k)) (λ f. omega (arith, f, lt)))
    ∙ cond-true (n == length b) wanting (further far k ks b) (eq-eqb n (length b) e)

choose_next : (far : ℕ) (k : FixedText) (ks : List FixedText) (b : List ℕ) → agreeing (fixed_text k) b < length (fixed_text k) → agreeing (fixed_text k) b < length b
    → choose far (k ∷ ks) b ≡ further far k ks b
unfolding choose
choose_next far k ks b lt less =
    let n = agreeing (fixed_text k) b in
    cond-false (n == length (fixed_text k)) (taken k b) (cond (n == length b) wanting (further far k ks b)) (ne_eqb n (length (fixed_text k)) (λ f. omega (arith, f, lt)))
    ∙ cond-false (n == length b) wanting (further far k ks b) (ne_eqb n (length b) (λ f. omega (arith, f, less)))

-- the three ways in which octets stand to a text
data Way (w b : List ℕ) : Type 0 where
  spelled : agreeing w b ≡ length w → Way w b
  begun : agreeing w b < length w → agreeing w b ≡ length b → Way w b
  other : agreeing w b < length w → agreeing w b < length b → Way w b

way : (w b : List ℕ) → Way w b
way w b = by (agreeing w b == length w) refl (agreeing w b == length b) refl
  where
    by : (m : Bool) → (agreeing w b == length w) ≡ m → (n : Bool) → (agreeing w b == length b) ≡ n → Way w b
    by true e n f = spelled (eqb-true (agreeing w b) (length w) e)
    by false e true f =
        let le = agree_text w b in
        let ne = eqb-false (agreeing w b) (length w) e in
        begun (omega (arith, le, ne)) (eqb-true (agreeing w b) (length b) f)
    by false e false f =
        let le = agree_text w b in
        let ne = eqb-false (agreeing w b) (length w) e in
        let less = agree_octets w b in
        let nb = eqb-false (agreeing w b) (length b) f in
        other (omega (arith, le, ne)) (omega (arith, less, nb))

choose_whole : (ks : List FixedText) (far : ℕ) (k : FixedText) (t rest : List ℕ) → is_table ks ≡ true → OneOf k ks → IsWord (fixed_text k) t
    → choose far ks (t ++ rest) ≡ Ok (k, rest)
choose_whole [] far k t rest table h e = absurd h
choose_whole (x ∷ xs) far k t rest table (inl h) e =
    let word : IsWord (fixed_text x) t = e ∙ ap fixed_text h in
    let all = agree_all (fixed_text x) t rest word in
    let long : length t ≡ agreeing (fixed_text x) (t ++ rest) = sym (length-map t lower) ∙ ap length word ∙ sym all in
    choose_one far x xs (t ++ rest) all ∙ ap (λ (u : List ℕ). Ok (x, u)) (drop_at t rest (agreeing (fixed_text x) (t ++ rest)) long) ∙ ap (λ (z : FixedText). Ok (z, rest)) (sym h)
choose_whole (x ∷ xs) far k t rest table (inr h) e =
    let parts = table_parts x xs table in
    let a = apart_from k x xs parts.apart h in
    choose_next far x xs (t ++ rest) (apart_few (fixed_text x) (fixed_text k) (t ++ rest) a (alike_whole (fixed_text k) t rest e))
    (apart_whole (fixed_text x) (fixed_text k) t rest a e)
    ∙ choose_whole xs (max far (agreeing (fixed_text x) (t ++ rest))) k t rest parts.rest h e

choose_short : (ks : List FixedText) (far : ℕ) (k : FixedText) (t more : List ℕ) → is_table ks ≡ true → OneOf k ks → IsWord (fixed_text k) (t ++ more) → (more ≡ [] → ⊥)
    → choose far ks t ≡ wanting
choose_short [] far k t more table h e proper = absurd h
choose_short (x ∷ xs) far k t more table (inl h) e proper =
    let word : IsWord (fixed_text x) (t ++ more) = e ∙ ap fixed_text h in
    let front = agree_front (fixed_text x) t more word in
    let long : length t + length more ≡ length (fixed_text x) = sym (length-append t more) ∙ sym (length-map (t ++ more) lower) ∙ ap length word in
    choose_more far x xs t (omega (arith, front, long, some more proper)) front
  where
    some : (u : List ℕ) → (u ≡ [] → ⊥) → 0 < length u
    some [] n = absurd (n refl)
    some (c ∷ u) n = omega arith
choose_short (x ∷ xs) far k t more table (inr h) e proper =
    let parts = table_parts x xs table in
    let few = apart_few (fixed_text x) (fixed_text k) t (apart_from k x xs parts.apart h) (alike_front (fixed_text k) t more e) in
    by few (way (fixed_text x) t) (choose_short xs (max far (agreeing (fixed_text x) t)) k t more parts.rest h e proper)
  where
    by : agreeing (fixed_text x) t < length (fixed_text x) → Way (fixed_text x) t → choose (max far (agreeing (fixed_text x) t)) xs t ≡ wanting → choose far (x ∷ xs) t ≡ wanting
    by few (spelled f) g = absurd (omega (arith, few, f))
    by few (begun f n) g = choose_more far x xs t f n
    by few (other f n) g = choose_next far x xs t f n ∙ g

choose_found : (ks : List FixedText) (far : ℕ) (b : List ℕ) (k : FixedText) (rest : List ℕ) → choose far ks b ≡ Ok (k, rest) → (t : List ℕ) × Choices ks k t × (b ≡ t ++ rest)
unfolding choose
choose_found [] far b k rest e = absurd cc
choose_found (x ∷ xs) far b k rest e = by (way (fixed_text x) b) (choose_found xs (max far (agreeing (fixed_text x) b)) b k rest)
  where
    by : Way (fixed_text x) b → (choose (max far (agreeing (fixed_text x) b)) xs b ≡ Ok (k, rest) → (t : List ℕ) × Choices xs k t × (b ≡ t ++ rest))
        → (t : List ℕ) × Choices (x ∷ xs) k t × (b ≡ t ++ rest)
    by (spelled f) g =
        let n = agreeing (fixed_text x) b in
        let r : ◌≡◌ {A = Result (FixedText × List ℕ) NoCommand} (Ok (x, drop n b)) (Ok (k, rest)) = sym (choose_one far x xs b f) ∙ e in
        let p : ◌≡◌ {A = FixedText × List ℕ} (x, drop n b) (k, rest) = cc in
        let same : x ≡ k = ap (λ (q : FixedText × List ℕ). q.0) p in
        let left : drop n b ≡ rest = ap (λ (q : FixedText × List ℕ). q.1) p in
        let whole : take n (fixed_text x) ≡ fixed_text x = ap (λ (i : ℕ). take i (fixed_text x)) f ∙ take_all (length (fixed_text x)) (fixed_text x) (omega arith) in
        (take n b, (inl (sym same), agree_spells (fixed_text x) b ∙ whole ∙ ap fixed_text same), sym (take-append-drop n b) ∙ ap (λ (u : List ℕ). take n b ++ u) left)
    by (begun f n) g = let r = sym (choose_more far x xs b f n) ∙ e in absurd cc
    by (other f n) g = let r = g (sym (choose_next far x xs b f n) ∙ e) in (r.0, (inr r.1.0, r.1.1), r.2)

-- ---- octets with which none goes on

-- no text is spelled or begun
abbrev NoneAgrees : List FixedText → List ℕ → Type 0
NoneAgrees [] b = Unit {0}
NoneAgrees (k ∷ ks) b = ((agreeing (fixed_text k) b < length (fixed_text k)) × (agreeing (fixed_text k) b < length b)) × NoneAgrees ks b

-- the most octets that agree with one
abbrev farthest : ℕ → List FixedText → List ℕ → ℕ
farthest far [] b = far
farthest far (k ∷ ks) b = farthest (max far (agreeing (fixed_text k) b)) ks b

choose_none : (ks : List FixedText) (far : ℕ) (b : List ℕ) → NoneAgrees ks b → choose far ks b ≡ Err (Bad (length b - farthest far ks b))
unfolding choose
choose_none [] far b h = refl
choose_none (k ∷ ks) far b h = choose_next far k ks b h.0.0 h.0.1 ∙ choose_none ks (max far (agreeing (fixed_text k) b)) b h.1

-- a text that the octets begin
abbrev Begun : List FixedText → List ℕ → Type 0
Begun ks b = (k : FixedText) × OneOf k ks × (agreeing (fixed_text k) b < length (fixed_text k)) × (agreeing (fixed_text k) b ≡ length b)

-- why none is read: one is begun, or none agrees
choose_why : (ks : List FixedText) (far : ℕ) (b : List ℕ) (e : NoCommand) → choose far ks b ≡ Err e → ((e ≡ NeedMore) × Begun ks b) ⊎ NoneAgrees ks b
choose_why [] far b e h = inr tt
choose_why (x ∷ xs) far b e h = by (way (fixed_text x) b) (choose_why xs (max far (agreeing (fixed_text x) b)) b e)
  where
    by : Way (fixed_text x) b → (choose (max far (agreeing (fixed_text x) b)) xs b ≡ Err e → ((e ≡ NeedMore) × Begun xs b) ⊎ NoneAgrees xs b)
        → ((e ≡ NeedMore) × Begun (x ∷ xs) b) ⊎ NoneAgrees (x ∷ xs) b
    by (spelled f) g = let r = sym (choose_one far x xs b f) ∙ h in absurd cc
    by (begun f n) g = let r : ◌≡◌ {A = Result (FixedText × List ℕ) NoCommand} (Err NeedMore) (Err e) = sym (choose_more far x xs b f n) ∙ h in inl (cc, (x, inl refl, f, n))
    by (other f n) g = elim (g (sym (choose_next far x xs b f n) ∙ h)) [
      | inl r ↦ inl (r.0, (r.1.0, inr r.1.1, r.1.2, r.1.3))
      | inr r ↦ inr ((f, n), r)
    ]

none_of : (ks : List FixedText) (b : List ℕ) (k : FixedText) → NoneAgrees ks b → OneOf k ks
    → (agreeing (fixed_text k) b < length (fixed_text k)) × (agreeing (fixed_text k) b < length b)
none_of [] b k h i = absurd i
none_of (x ∷ xs) b k h (inl i) = subst (λ (z : FixedText). (agreeing (fixed_text z) b < length (fixed_text z)) × (agreeing (fixed_text z) b < length b)) (sym i) h.0
none_of (x ∷ xs) b k h (inr i) = none_of xs b k h.1 i

farthest_far : (ks : List FixedText) (far : ℕ) (b : List ℕ) → far ≤ farthest far ks b
farthest_far [] far b = omega arith
farthest_far (k ∷ ks) far b = let h = farthest_far ks (max far (agreeing (fixed_text k) b)) b in omega (arith, h)

farthest_most : (ks : List FixedText) (far : ℕ) (b : List ℕ) (k : FixedText) → OneOf k ks → agreeing (fixed_text k) b ≤ farthest far ks b
farthest_most [] far b k i = absurd i
farthest_most (x ∷ xs) far b k (inl i) =
    let h = farthest_far xs (max far (agreeing (fixed_text x) b)) b in
    let same = ap (λ (z : FixedText). agreeing (fixed_text z) b) i in
    omega (arith, h, same)
farthest_most (x ∷ xs) far b k (inr i) = farthest_most xs (max far (agreeing (fixed_text x) b)) b k i

-- the most is where the count began, or what agrees with one of the texts
farthest_one : (ks : List FixedText) (far : ℕ) (b : List ℕ) → (farthest far ks b ≡ far) ⊎ ((k : FixedText) × OneOf k ks × (farthest far ks b ≡ agreeing (fixed_text k) b))
farthest_one [] far b = inl refl
farthest_one (x ∷ xs) far b = elim (farthest_one xs (max far (agreeing (fixed_text x) b)) b) [
  | inl e ↦ by e (cases_lt far (agreeing (fixed_text x) b))
  | inr h ↦ inr (h.0, inr h.1, h.2)
]
  where
    by : farthest (max far (agreeing (fixed_text x) b)) xs b ≡ max far (agreeing (fixed_text x) b) → (far < agreeing (fixed_text x) b) ⊎ (agreeing (fixed_text x) b ≤ far)
        → (farthest (max far (agreeing (fixed_text x) b)) xs b ≡ far) ⊎ ((k : FixedText) × OneOf k (x ∷ xs) ×
        (farthest (max far (agreeing (fixed_text x) b)) xs b ≡ agreeing (fixed_text k) b))
    by e (inl lt) = inr (x, inl refl, omega (arith, e, lt))
    by e (inr le) = inl (omega (arith, e, le))

-- octets up to the most that agree, and the next one, are wrong there whatever follows
none_upto : (ks : List FixedText) (b : List ℕ) (at : ℕ) (r : List ℕ) → NoneAgrees ks b → ((k : FixedText) → OneOf k ks → agreeing (fixed_text k) b ≤ at) → at < length b
    → NoneAgrees ks (take at b ++ get_or b at 0 ∷ r)
none_upto [] b at r h le lt = tt
none_upto (k ∷ ks) b at r h le lt =
    let c = take at b ++ get_or b at 0 ∷ r in
    let same : agreeing (fixed_text k) c ≡ agreeing (fixed_text k) b = agree_upto (fixed_text k) b at r h.0.0 (le k (inl refl)) lt in
    let long : length c ≡ length (take at b) + suc (length r) = length-append (take at b) (get_or b at 0 ∷ r) in
    let front : length (take at b) ≡ at = length-take-le at b (omega (arith, lt)) in
    let most = le k (inl refl) in
    ((subst (λ (n : ℕ). n < length (fixed_text k)) (sym same) h.0.0, omega (arith, same, long, front, most)), none_upto ks b at r h.1 (λ x i. le x (inr i)) lt)

farthest_upto : (ks : List FixedText) (far : ℕ) (b : List ℕ) (at : ℕ) (r : List ℕ) → NoneAgrees ks b → ((k : FixedText) → OneOf k ks → agreeing (fixed_text k) b ≤ at)
    → at < length b
    → farthest far ks (take at b ++ get_or b at 0 ∷ r) ≡ farthest far ks b
farthest_upto [] far b at r h le lt = refl
farthest_upto (k ∷ ks) far b at r h le lt =
    let c = take at b ++ get_or b at 0 ∷ r in
    let same : agreeing (fixed_text k) c ≡ agreeing (fixed_text k) b = agree_upto (fixed_text k) b at r h.0.0 (le k (inl refl)) lt in
    ap (λ (n : ℕ). farthest (max far n) ks c) same ∙ farthest_upto ks (max far (agreeing (fixed_text k) b)) b at r h.1 (λ x i. le x (inr i)) lt

-- ---- the reader

-- as many octets as agree, and the rest of the text
completed : (w b : List ℕ) (n : ℕ) → Each is_plain w → n ≡ agreeing w b → IsWord w (take n b ++ drop n w)
completed w b n plain e =
    map-append lower (take n b) (drop n w)
    ∙ ap (λ (u : List ℕ). u ++ map lower (drop n w)) (ap (λ (i : ℕ). map lower (take i b)) e ∙ agree_spells w b ∙ ap (λ (i : ℕ). take i w) (sym e))
    ∙ ap (λ (u : List ℕ). take n w ++ u) (plain_lower (drop n w) (each_parts is_plain (take n w) (drop n w) (subst (Each is_plain) (sym (take-append-drop n w)) plain)).1)
    ∙ take-append-drop n w

rest_some : (w : List ℕ) (n : ℕ) → n < length w → drop n w ≡ [] → ⊥
rest_some w n lt e = let f = ap length e in let g = length-drop n w in omega (arith, f, g, lt)

stop_open : (t : List ℕ) → ends_with_line t ≡ false → NeedMore ≡ stop_of NeedMore t
stop_open [] e = refl
stop_open (c ∷ t) e = ap (λ (b : Bool). cond b WantsLiteral NeedMore) (sym e)

begun_open : (ks : List FixedText) (b : List ℕ) → is_table ks ≡ true → Begun ks b → IsOpen (Choices ks) NeedMore b NeedMore
begun_open ks b table h =
    let w = fixed_text h.0 in
    let n = agreeing w b in
    let front : take n b ≡ b = ap (λ (i : ℕ). take i b) h.3 ∙ take_all (length b) b (omega arith) in
    let plain = text_plain ks h.0 table h.1 in
    let word : IsWord w (b ++ drop n w) = subst (λ (u : List ℕ). IsWord w (u ++ drop n w)) front (completed w b n plain refl) in
    let small_b = (each_parts small b (drop n w) (word_small w (b ++ drop n w) plain word)).0 in
    let proper = rest_some w n h.2 in
    record {
      value = h.0;
      text = b;
      more = drop n w;
      reads = (h.1, word);
      proper = proper;
      octets = plain_small b small_b;
      stop = stop_open b (word_open w b (drop n w) (text_line ks h.0 table h.1) word proper);
    }

wrong_here : (ks : List FixedText) (b : List ℕ) (left : ℕ) → is_table ks ≡ true → NoneAgrees ks b → choose 0 ks b ≡ Err (Bad left)
    → (k : FixedText) → OneOf k ks → farthest 0 ks b ≡ agreeing (fixed_text k) b → IsWrong (Choices ks) (choose 0 ks) b left
wrong_here ks b left table none e k one same =
    let w = fixed_text k in
    let at = farthest 0 ks b in
    let plain = text_plain ks k table one in
    let each = none_of ks b k none one in
    let lt : at < length b = omega (arith, same, each.1) in
    let few : at < length w = omega (arith, same, each.0) in
    let word : IsWord w (take at b ++ drop at w) = completed w b at plain same in
    let small_front = (each_parts small (take at b) (drop at w) (word_small w (take at b ++ drop at w) plain word)).0 in
    let front : plain_octets (take at b) ≡ take at b = plain_small (take at b) small_front in
    let le : (x : FixedText) → OneOf x ks → agreeing (fixed_text x) b ≤ at = farthest_most ks 0 b in
    let f : ◌≡◌ {A = Result (FixedText × List ℕ) NoCommand} (Err (Bad (length b - at))) (Err (Bad left)) = sym (choose_none ks 0 b none) ∙ e in
    let g : length b - at ≡ left = cc in
    let behind = length-drop (at + 1) b in
    record {
      value = k;
      text = take at b;
      more = drop at w;
      octet = get_or b at 0;
      rest = drop (at + 1) b;
      reads = (one, word);
      proper = rest_some w at few;
      whole = sym (take-append-drop at b) ∙ ap (λ (u : List ℕ). take at b ++ u) (drop_more b at 0 lt) ∙ ap (λ (u : List ℕ). u ++ get_or b at 0 ∷ drop (at + 1) b) (sym front);
      left_is = omega (arith, g, behind, lt);
      stays = λ r.
          let c : List ℕ = take at b ++ get_or b at 0 ∷ r in
          let long : length c ≡ length (take at b) + suc (length r) = length-append (take at b) (get_or b at 0 ∷ r) in
          let count : length (take at b) ≡ at = length-take-le at b (omega (arith, lt)) in
          let far : farthest 0 ks c ≡ at = farthest_upto ks 0 b at r none le lt in
          let n : length c - farthest 0 ks c ≡ suc (length r) = omega (arith, long, count, far) in
          ap (λ (u : List ℕ). choose 0 ks (u ++ get_or b at 0 ∷ r)) front ∙ choose_none ks 0 c (none_upto ks b at r none le lt) ∙ ap (λ (i : ℕ). Err (Bad i)) n;
    }

choose_stopped : (k : FixedText) (ks : List FixedText) (b : List ℕ) (e : NoCommand) → is_table (k ∷ ks) ≡ true → choose 0 (k ∷ ks) b ≡ Err e
    → Stopped (Choices (k ∷ ks)) (choose 0 (k ∷ ks)) NeedMore b e
choose_stopped k ks b e table h = elim (choose_why (k ∷ ks) 0 b e h) [
  | inl r ↦ subst (λ (s : NoCommand). Stopped (Choices (k ∷ ks)) (choose 0 (k ∷ ks)) NeedMore b s) (sym r.0) (begun_open (k ∷ ks) b table r.1)
  | inr none ↦ by none e h
]
  where
    one : NoneAgrees (k ∷ ks) b → (left : ℕ) → choose 0 (k ∷ ks) b ≡ Err (Bad left) → IsWrong (Choices (k ∷ ks)) (choose 0 (k ∷ ks)) b left
    one none left g = elim (farthest_one (k ∷ ks) 0 b) [
      | inl zero_far ↦
          let most = farthest_most (k ∷ ks) 0 b k (inl refl) in
          wrong_here (k ∷ ks) b left table none g k (inl refl) (omega (arith, zero_far, most))
      | inr x ↦ wrong_here (k ∷ ks) b left table none g x.0 x.1 x.2
    ]

    by : NoneAgrees (k ∷ ks) b → (e : NoCommand) → choose 0 (k ∷ ks) b ≡ Err e → Stopped (Choices (k ∷ ks)) (choose 0 (k ∷ ks)) NeedMore b e
    by none NeedMore g = let r = sym (choose_none (k ∷ ks) 0 b none) ∙ g in absurd cc
    by none WantsLiteral g = let r = sym (choose_none (k ∷ ks) 0 b none) ∙ g in absurd cc
    by none (Bad left) g = one none left g

-- a table of texts is read as one of them
pub choose_reader : (k : FixedText) (ks : List FixedText) → is_table (k ∷ ks) ≡ true → IsReader NeedMore (Choices (k ∷ ks)) (choose 0 (k ∷ ks))
choose_reader k ks table = record {
  whole = λ v t rest h.
      ap (λ (u : List ℕ). choose 0 (k ∷ ks) (u ++ rest)) (plain_small t (word_small (fixed_text v) t (text_plain (k ∷ ks) v table h.0) h.1))
      ∙ choose_whole (k ∷ ks) 0 v t rest table h.0 h.1;
  short = λ v t more h proper.
      let plain = text_plain (k ∷ ks) v table h.0 in
      ap (choose 0 (k ∷ ks)) (plain_small t (each_parts small t more (word_small (fixed_text v) (t ++ more) plain h.1)).0)
      ∙ choose_short (k ∷ ks) 0 v t more table h.0 h.1 proper
      ∙ ap (λ (e : NoCommand). Err e) (stop_open t (word_open (fixed_text v) t more (text_line (k ∷ ks) v table h.0) h.1 proper));
  found = λ b v rest are e.
      let x = choose_found (k ∷ ks) 0 b v rest e in
      (x.0, x.1, x.2 ∙ ap (λ (u : List ℕ). u ++ rest) (sym (plain_small x.0 (word_small (fixed_text v) x.0 (text_plain (k ∷ ks) v table x.1.0) x.1.1))));
  stopped = λ b e are h. choose_stopped k ks b e table h;
  some = (k, fixed_text k, (inl refl, plain_lower (fixed_text k) (text_plain (k ∷ ks) k table (inl refl))));
}
