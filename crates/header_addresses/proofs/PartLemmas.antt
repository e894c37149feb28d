-- What a text by itself is, or begins with.
use Rattle.std.proofs.Common.{◌≡◌, ◌≢◌, ℕ, ◌+◌, Bool, true, false, not, List, [], ◌∷◌, ◌++◌, length, take, drop, refl, sym, ap, ◌∙◌, subst, append_assoc, arith, ◌==◌, ◌≤◌, eqb, take-append-drop, Option, Some, None, MatchOption}
use Rattle.std.specs.List.{filter}
use Rattle.std.proofs.lemmas.List.{append_cancel_left, drop_at, length-append, length-map, take-map}
use Rattle.text_words.specs.Cuts.{Each, Stops, front, back}
use Rattle.text_words.proofs.CutLemmas.{SameCut, run_cut, front_back, back_stops}
use Rattle.header_words.specs.EncodedWords.{IsText}
use Rattle.header_words.proofs.WordLemmas as words
use Rattle.header_tokens.specs.declared.token.Alphabet.TheVariants as alphabet
use Rattle.header_tokens.specs.Tokens.{Spelled, AreTokens, AreLeading}
use Rattle.header_tokens.specs.Kinds.{has_mark}
use Rattle.header_tokens.specs.declared.token.Token.{Token}
use Rattle.header_tokens.specs.TokenView.{token_view, tokens_view}
use Rattle.header_tokens.proofs.LeadingLemmas.{one_leading, one_rest, one_tokens}
use Rattle.header_addresses.specs.declared.address.Address.{Address}
use Rattle.header_addresses.specs.Mailboxes.{is_phrase, is_no_colon, Mailbox}
use Rattle.header_addresses.specs.AddressLists.{Element, Empty, Head, End, Member, Addressee, One, Group, AreAddressees, NoAddressees, Passed, NextOne, NextGroup}
use Rattle.header_addresses.specs.Names.{phrase_text, IsAddress}
use Rattle.header_addresses.specs.Parts.{IsOneAddress, IsPhraseName, spelled_by, HasHead}
use Rattle.header_addresses.specs.reading.ElementReading.{is_filled}
use Rattle.header_addresses.specs.reading.GroupBuilding.{IsList, IsNoList, OneIn, NotOne, IsOne, NameIn, NotPhrase, IsPhrase}
use Rattle.header_addresses.proofs.AddresseeLemmas.{is_listed, one_elements, elements_here, one_list}
use Rattle.header_addresses.proofs.MailboxLemmas.{phrase_each}
use Rattle.header_addresses.proofs.FormLemmas as forms

-- ---- one mailbox and no group

nothing_in : (es : List Element) → filter is_filled es ≡ [] → AreAddressees [] es
nothing_in [] e = NoAddressees
nothing_in (Empty ∷ es) e = Passed [] es (nothing_in es e)
nothing_in (Head p ∷ es) e = absurd cc
nothing_in (End ∷ es) e = absurd cc
nothing_in (Member m ∷ es) e = absurd cc

single_in : (es : List Element) (m : Mailbox) → filter is_filled es ≡ Member m ∷ [] → AreAddressees (One m ∷ []) es
single_in [] m e = absurd cc
single_in (Empty ∷ es) m e = Passed (One m ∷ []) es (single_in es m e)
single_in (Head p ∷ es) m e = absurd cc
single_in (End ∷ es) m e = absurd cc
single_in (Member k ∷ es) m e =
    let f : filter is_filled es ≡ [] = cc in
    let g : k ≡ m = cc in
    subst (λ (u : Mailbox). AreAddressees (One u ∷ []) (Member k ∷ es)) g (NextOne k [] es (nothing_in es f))

abbrev are_ones : List Addressee → Bool
are_ones [] = true
are_ones (One m ∷ who) = are_ones who
are_ones (Group phrase ms ∷ who) = false

abbrev members_of : List Addressee → List Element
members_of [] = []
members_of (One m ∷ who) = Member m ∷ members_of who
members_of (Group phrase ms ∷ who) = members_of who

ones_kept : (who : List Addressee) (es : List Element) → AreAddressees who es → are_ones who ≡ true → filter is_filled es ≡ members_of who
ones_kept _ _ NoAddressees e = refl
ones_kept _ _ (Passed who es h) e = ones_kept who es h e
ones_kept _ _ (NextOne m who es h) e = ap (λ (u : List Element). Member m ∷ u) (ones_kept who es h e)
ones_kept _ _ (NextGroup g who es h) e = absurd cc

-- tokens that are no list are no address
pub not_list : (ts : List Spelled) → IsNoList ts → OneIn ts None
not_list ts n = NotOne (λ es m s a. n es s (is_listed (One m ∷ []) es a (λ e. absurd cc)))

-- nor are those of a list of other elements than one mailbox
pub not_alone : (kept : List Element) (ts : List Spelled) → IsList kept ts → ((m : Mailbox) → kept ≡ Member m ∷ [] → ⊥) → OneIn ts None
not_alone kept ts l n = NotOne (λ es m s a.
    n m (l.filled.kept_is ∙ ap (filter is_filled) (one_elements l.filled.all es ts l.filled.are s) ∙ ones_kept (One m ∷ []) es a refl))

-- those of a list of one mailbox are its address
pub is_alone : (kept : List Element) (ts : List Spelled) (m : Mailbox) (a : Address) → IsList kept ts → kept ≡ Member m ∷ [] → IsAddress m a → OneIn ts (Some a)
is_alone kept ts m a l e h = IsOne l.filled.all m a l.filled.are (single_in l.filled.all m (sym l.filled.kept_is ∙ e)) h

abbrev pub OneTold : List ℕ → Option Address → Type 0
OneTold t r = MatchOption r ((a : Address) → IsOneAddress a t → ⊥) (λ (a : Address). IsOneAddress a t)

-- what the tokens of a text are is what the text is
pub one_told : (t : List ℕ) (ts : List Spelled) (r : Option Address) → AreTokens alphabet.Mail ts t → OneIn ts r → OneTold t r
one_told t ts _ a (NotOne n) = λ b h. n h.is.elements h.mailbox (elements_here (One h.mailbox ∷ []) t ts h.is a) h.is.are_addressees
one_told t ts _ a (IsOne es m b s w i) = record {
  mailbox = m;
  is = record { tokens = ts; are_tokens = a; elements = es; are_elements = s; are_addressees = w; some = λ e. absurd cc };
  address = i;
}

-- a text that is no row of tokens is no address
pub none_told : (t : List ℕ) → ((ts : List Spelled) → AreTokens alphabet.Mail ts t → ⊥) → OneTold t None
none_told t n = λ a h. n h.is.tokens h.is.are_tokens

mailbox_in : List Addressee → Mailbox → Mailbox
mailbox_in (One m ∷ who) n = m
mailbox_in _ n = n

-- a text is one address at most
pub one_one : (a b : Address) (t : List ℕ) → IsOneAddress a t → IsOneAddress b t → a ≡ b
unfolding mailbox_in
one_one a b t g h =
    let e = one_list (One g.mailbox ∷ []) (One h.mailbox ∷ []) t g.is h.is in
    let f : g.mailbox ≡ h.mailbox = ap (λ (w : List Addressee). mailbox_in w h.mailbox) e in
    forms.one_address h.mailbox a b (subst (λ (m : Mailbox). IsAddress m a) f g.address) h.address

-- ---- a phrase

abbrev pub NameTold : List ℕ → Option (List ℕ) → Type 0
NameTold t r = MatchOption r ((name : List ℕ) → IsPhraseName name t → ⊥) (λ (name : List ℕ). IsPhraseName name t)

-- the name of the tokens of a text is the text's
pub name_told : (t : List ℕ) (ts : List Spelled) (r : Option (List ℕ)) → AreTokens alphabet.Mail ts t → NameIn ts r → NameTold t r
name_told t ts _ a (NotPhrase e) = λ name h. let f = ap is_phrase (one_tokens alphabet.Mail h.tokens ts t h.are_tokens a) in let p = h.phrase in absurd cc
name_told t ts _ a (IsPhrase name e x) = record { tokens = ts; are_tokens = a; phrase = e; text = x }

-- a text that is no row of tokens is no phrase
pub nameless_told : (t : List ℕ) → ((ts : List Spelled) → AreTokens alphabet.Mail ts t → ⊥) → NameTold t None
nameless_told t n = λ name h. n h.tokens h.are_tokens

-- a phrase spells one name
pub one_phrase : (x y t : List ℕ) → IsPhraseName x t → IsPhraseName y t → x ≡ y
one_phrase x y t g h =
    let e = one_tokens alphabet.Mail g.tokens h.tokens t g.are_tokens h.are_tokens in
    words.one_text false (phrase_text h.tokens) x y (subst (λ (v : List Spelled). IsText false (phrase_text v) x) e g.text) h.text

-- ---- a group's beginning

-- what spells the tokens at the front of a text stands at its front
leading_text : (ts : List Spelled) (tail t : List ℕ) → AreLeading alphabet.Mail ts tail t → t ≡ spelled_by ts ++ tail
leading_text [] tail t g = g.0
leading_text (v ∷ vs) tail t g =
    g.whole ∙ ap (λ (u : List ℕ). u ++ g.rest) (sym g.is.text_is) ∙ ap (λ (u : List ℕ). v.text ++ u) (leading_text vs tail g.rest g.more)
    ∙ sym (append_assoc v.text (spelled_by vs) tail)

spelled_join : (xs ys : List Spelled) → spelled_by (xs ++ ys) ≡ spelled_by xs ++ spelled_by ys
spelled_join [] ys = refl
spelled_join (x ∷ xs) ys = ap (λ (u : List ℕ). x.text ++ u) (spelled_join xs ys) ∙ sym (append_assoc x.text (spelled_by xs) (spelled_by ys))

spelled_cut : (n : ℕ) (ts : List Spelled) → spelled_by ts ≡ spelled_by (take n ts) ++ spelled_by (drop n ts)
spelled_cut n ts = ap spelled_by (sym (take-append-drop n ts)) ∙ spelled_join (take n ts) (drop n ts)

-- the text begins with what spells the first n of the tokens at its front
pub begins_with : (n : ℕ) (ts : List Spelled) (tail t : List ℕ) → AreLeading alphabet.Mail ts tail t → t ≡ spelled_by (take n ts) ++ (spelled_by (drop n ts) ++ tail)
begins_with n ts tail t g =
    leading_text ts tail t g ∙ ap (λ (u : List ℕ). u ++ tail) (spelled_cut n ts) ∙ append_assoc (spelled_by (take n ts)) (spelled_by (drop n ts)) tail

phrase_before : (ts : List Spelled) → is_phrase ts ≡ true → Each is_no_colon ts
phrase_before ts e = phrase_each (λ m. not (eqb m 58)) ts refl refl e

-- the phrase of a beginning stands before the first colon of the tokens
head_cut : (ts : List Spelled) (tail rest t : List ℕ) → AreLeading alphabet.Mail ts tail t → (h : HasHead rest t)
    → SameCut h.phrase (front is_no_colon ts) (h.colon ∷ h.more) (back is_no_colon ts)
head_cut ts tail rest t g h =
    let e = one_leading alphabet.Mail ts (h.phrase ++ h.colon ∷ h.more) tail h.tail t g h.tokens in
    subst (λ (u : List Spelled). SameCut h.phrase (front is_no_colon u) (h.colon ∷ h.more) (back is_no_colon u)) (sym e)
    (run_cut is_no_colon h.phrase h.more h.colon (phrase_before h.phrase h.is_phrase) (ap not h.is_colon))

-- without a colon there is no beginning
pub no_colon : (ts : List Spelled) (tail t : List ℕ) → AreLeading alphabet.Mail ts tail t → back is_no_colon ts ≡ [] → (rest : List ℕ) → HasHead rest t → ⊥
no_colon ts tail t g e rest h = let c = (head_cut ts tail rest t g h).back in absurd cc

-- nor without a phrase before it
pub no_phrase : (ts : List Spelled) (tail t : List ℕ) → AreLeading alphabet.Mail ts tail t → is_phrase (front is_no_colon ts) ≡ false → (rest : List ℕ) → HasHead rest t → ⊥
no_phrase ts tail t g e rest h = let c = ap is_phrase (head_cut ts tail rest t g h).front in let p = h.is_phrase in absurd cc

-- a phrase and a colon are one
pub head_here : (ts : List Spelled) (tail rest t : List ℕ) → AreLeading alphabet.Mail ts tail t → back is_no_colon ts ≢ [] → is_phrase (front is_no_colon ts) ≡ true
    → t ≡ spelled_by (take (length (front is_no_colon ts) + 1) ts) ++ rest → HasHead rest t
head_here ts tail rest t g n p e = by (back is_no_colon ts) refl n
  where
    behind : (ph : List Spelled) (colon : Spelled) (more : List Spelled) → ts ≡ ph ++ colon ∷ more → drop (length ph + 1) ts ≡ more
    behind ph colon more w = ap (drop (length ph + 1)) (w ∙ sym (append_assoc ph (colon ∷ []) more))
        ∙ drop_at (ph ++ colon ∷ []) more (length ph + 1) (length-append ph (colon ∷ []))

    colon_is : (b : Bool) → not b ≡ false → b ≡ true
    colon_is true f = refl
    colon_is false f = absurd cc

    by : (b : List Spelled) → b ≡ back is_no_colon ts → b ≢ [] → HasHead rest t
    by [] f m = absurd (m refl)
    by (colon ∷ more) f m =
        let ph = front is_no_colon ts in
        let w : ts ≡ ph ++ colon ∷ more = front_back is_no_colon ts ∙ ap (λ (u : List Spelled). ph ++ u) (sym f) in
        let s = subst (λ (u : List Spelled). Stops is_no_colon u) (sym f) (back_stops is_no_colon ts) in
        record {
          phrase = ph;
          colon = colon;
          more = more;
          tail = tail;
          tokens = subst (λ (u : List Spelled). AreLeading alphabet.Mail u tail t) w g;
          is_phrase = p;
          is_colon = colon_is (has_mark 58 colon) s;
          rest_is = append_cancel_left (spelled_by (take (length ph + 1) ts)) rest (spelled_by more ++ tail)
              (sym e ∙ begins_with (length ph + 1) ts tail t g ∙ ap (λ (u : List Spelled). spelled_by (take (length ph + 1) ts) ++ (spelled_by u ++ tail)) (behind ph colon more w));
        }

-- ---- the same, of the code's tokens

-- what `is_empty` says
pub empty_is : (l : List Token) (b : Bool) → b ≡ (length l == 0) → b ≡ true → l ≡ []
empty_is [] b is so = refl
empty_is (x ∷ l) b is so = absurd (grind arith)

-- where `is_empty` is false, there is something
pub some_is : (l : List Token) (b : Bool) → b ≡ (length l == 0) → b ≡ false → tokens_view l ≢ []
some_is [] b is so nil = absurd (grind arith)
some_is (x ∷ l) b is so nil = absurd cc

-- a phrase and a colon are among the tokens
pub head_fits : (tokens phrase more : List Token) → tokens_view phrase ≡ front is_no_colon (tokens_view tokens) → tokens_view more ≡ back is_no_colon (tokens_view tokens)
    → tokens_view more ≢ [] → length phrase + 1 ≤ length tokens
head_fits tokens phrase [] f b n = absurd (n refl)
head_fits tokens phrase (colon ∷ more) f b n =
    let w : tokens_view tokens ≡ tokens_view phrase ++ tokens_view (colon ∷ more) = front_back is_no_colon (tokens_view tokens)
    ∙ ap (λ (u : List Spelled). u ++ back is_no_colon (tokens_view tokens)) (sym f) ∙ ap (λ (u : List Spelled). tokens_view phrase ++ u) (sym b) in
    omega (arith, length-map tokens token_view, length-map phrase token_view, length-map (colon ∷ more) token_view, ap length w, length-append (tokens_view phrase) (tokens_view (colon ∷ more)))

-- the text begins with what spells the first n of them
pub begins_code : (n : ℕ) (tokens head : List Token) (tail t : List ℕ) → head ≡ take n tokens → AreLeading alphabet.Mail (tokens_view tokens) tail t
    → (more : List ℕ) × (t ≡ spelled_by (tokens_view head) ++ more)
begins_code n tokens head tail t h g = (
  spelled_by (drop n (tokens_view tokens)) ++ tail,
  begins_with n (tokens_view tokens) tail t g
      ∙ ap (λ (u : List Spelled). spelled_by u ++ (spelled_by (drop n (tokens_view tokens)) ++ tail)) (take-map token_view n tokens ∙ ap tokens_view (sym h)),
)

-- a phrase and a colon are a beginning
pub head_code : (tokens phrase more head : List Token) (tail rest t : List ℕ) → AreLeading alphabet.Mail (tokens_view tokens) tail t
    → tokens_view phrase ≡ front is_no_colon (tokens_view tokens) → tokens_view more ≡ back is_no_colon (tokens_view tokens) → tokens_view more ≢ []
    → is_phrase (tokens_view phrase) ≡ true → head ≡ take (length phrase + 1) tokens → t ≡ spelled_by (tokens_view head) ++ rest → HasHead rest t
head_code tokens phrase more head tail rest t g f b n p h e =
    head_here (tokens_view tokens) tail rest t g (λ z. n (b ∙ z)) (ap is_phrase (sym f) ∙ p) (e ∙ ap (λ (u : List Spelled). spelled_by u ++ rest)
    (ap tokens_view h ∙ sym (take-map token_view (length phrase + 1) tokens)
    ∙ ap (λ (k : ℕ). take (k + 1) (tokens_view tokens)) (sym (length-map phrase token_view) ∙ ap length f)))

-- what follows a beginning is one text
pub one_head : (r q t : List ℕ) → HasHead r t → HasHead q t → r ≡ q
one_head r q t g h =
    let c = head_cut (g.phrase ++ g.colon ∷ g.more) g.tail q t g.tokens h in
    let d = head_cut (g.phrase ++ g.colon ∷ g.more) g.tail r t g.tokens g in
    let f = one_rest alphabet.Mail (g.phrase ++ g.colon ∷ g.more) (h.phrase ++ h.colon ∷ h.more) g.tail h.tail t g.tokens h.tokens in
    let b : g.colon ∷ g.more ≡ h.colon ∷ h.more = d.back ∙ sym c.back in
    let more : g.more ≡ h.more = cc in
    g.rest_is ∙ ap (λ (u : List Spelled). spelled_by u ++ g.tail) more ∙ ap (λ (u : List ℕ). spelled_by h.more ++ u) f ∙ sym h.rest_is

-- what follows a beginning is the text's end
pub head_rest : (rest t : List ℕ) → HasHead rest t → (front : List ℕ) × (t ≡ front ++ rest)
head_rest rest t h =
    let n = length h.phrase + 1 in
    let ts = h.phrase ++ h.colon ∷ h.more in
    let d : drop n ts ≡ h.more = ap (drop n) (sym (append_assoc h.phrase (h.colon ∷ []) h.more))
    ∙ drop_at (h.phrase ++ h.colon ∷ []) h.more n (length-append h.phrase (h.colon ∷ [])) in (
      spelled_by (take n ts),
      begins_with n ts h.tail t h.tokens ∙ ap (λ (u : List Spelled). spelled_by (take n ts) ++ (spelled_by u ++ h.tail)) d
          ∙ ap (λ (u : List ℕ). spelled_by (take n ts) ++ u) (sym h.rest_is),
    )
