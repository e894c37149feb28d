-- The parts of SELECT and APPEND are what the grammar says of them.
use Rattle.std.proofs.Common.{◌≡◌, ℕ, ◌≤◌, Bool, true, false, ◌||◌, List, [], ◌∷◌, ◌++◌, Option, Some, None, refl, sym, ap, subst, ◌∙◌, append_assoc, inl, inr}
use Rattle.std.specs.Prelude.{◌==◌, ℤ, codes}
use Rattle.std.specs.Fmt.{decimal}
use Rattle.std.proofs.lemmas.Bool.{eqb-true, or_cases, both_ways}
use Rattle.std.proofs.lemmas.List.{append-nil}
use Rattle.imap_types.specs.declared.command.Command.{Command}
use Rattle.imap_types.specs.declared.command.Command.TheVariants as command
use Rattle.imap_types.specs.Texts.{IsWord, crlf}
use Rattle.imap_types.specs.Lines.{joined}
use Rattle.imap_types.specs.Strings.{IsCounted}
use Rattle.imap_types.specs.Items.{IsNames, kept}
use Rattle.imap_types.specs.DateTimes.{IsDateTime}
use Rattle.command_parts.specs.Fields.{IsFolderName}
use Rattle.command_parts.specs.declared.follow.Follow.TheVariants as follow
use Rattle.command_parts.specs.declared.fixed_text.FixedText.TheVariants as word
use Rattle.command_parts.specs.reading.Lexemes.{may_follow}
use Rattle.command_parts.proofs.Parts.{fixed_word, line_feed}
use Rattle.store_commands.proofs.FolderCommands.{Known, Selected, SelectArguments, AppendArguments, Marked}
use Rattle.store_commands.proofs.FolderSpelling.{then_of, word_split, sign_word, space_of, carriage_of, Asks, Spelled}

-- ---- SELECT

-- a parameter behind its space, and the line's end
record KnownText (known : ℕ × ℕ) (t : List ℕ) : Type 0 where
  start : List ℕ
  whole : t ≡ start ++ (decimal known.0 ++ 32 ∷ (decimal known.1 ++ 41 ∷ 41 ∷ 13 ∷ 10 ∷ []))
  word_is : IsWord (codes "(qresync (") start
  validity : known.0 ≤ 4294967295
  modseq : known.1 ≤ 18446744073709551615

known_forth : (known : ℕ × ℕ) (t : List ℕ) → Known known t → KnownText known t
known_forth known t h =
    let k = h.1 in
    let n = k.second in
    let m = n.1.second in
    let e = m.1.second in
    let a = n.1.first in
    let b = m.1.first in
    let first : n.1.front ≡ decimal n.0.0 ++ 32 ∷ [] = a.0 ∙ ap (λ (d : ℕ). decimal n.0.0 ++ d ∷ []) (eqb-true n.0.1 32 a.2) in
    let second : m.1.front ≡ decimal m.0.0 ++ 41 ∷ [] = b.0 ∙ ap (λ (d : ℕ). decimal m.0.0 ++ d ∷ []) (eqb-true m.0.1 41 b.2) in
    let last : m.1.back ≡ 41 ∷ 13 ∷ 10 ∷ [] = sign_word (41 ∷ 13 ∷ 10 ∷ []) m.1.back refl (fixed_word word.KnownEnd e.0 m.1.back e.1) in
    let all : t ≡ k.front ++ ((decimal n.0.0 ++ 32 ∷ []) ++ ((decimal m.0.0 ++ 41 ∷ []) ++ 41 ∷ 13 ∷ 10 ∷ [])) =
    k.whole ∙ ap (λ (v : List ℕ). k.front ++ v)
    (n.1.whole ∙ ap (λ (v : List ℕ). v ++ n.1.back) first ∙ ap (λ (v : List ℕ). (decimal n.0.0 ++ 32 ∷ []) ++ v)
    (m.1.whole ∙ ap (λ (v : List ℕ). v ++ m.1.back) second ∙ ap (λ (v : List ℕ). (decimal m.0.0 ++ 41 ∷ []) ++ v) last)) in
    subst (λ (w : ℕ × ℕ). KnownText w t) (sym e.2) (record {
      start = k.front;
      whole = all ∙ regroup k.front (decimal n.0.0) (decimal m.0.0);
      word_is = fixed_word word.Qresync h.0 k.front k.first;
      validity = a.1;
      modseq = b.1;
    })
  where
    regroup : (q a b : List ℕ) → q ++ ((a ++ 32 ∷ []) ++ ((b ++ 41 ∷ []) ++ 41 ∷ 13 ∷ 10 ∷ [])) ≡ q ++ (a ++ 32 ∷ (b ++ 41 ∷ 41 ∷ 13 ∷ 10 ∷ []))
    regroup q a b = simp append_assoc

known_back : (known : ℕ × ℕ) (t : List ℕ) → KnownText known t → Known known t
known_back known t h = (
  word.Qresync,
  record {
    front = h.start;
    back = (decimal known.0 ++ 32 ∷ []) ++ ((decimal known.1 ++ 41 ∷ []) ++ 41 ∷ 13 ∷ 10 ∷ []);
    whole = h.whole ∙ regroup h.start (decimal known.0) (decimal known.1);
    first = (inl refl, h.word_is);
    second = (
      (known.0, 32),
      record {
        front = decimal known.0 ++ 32 ∷ [];
        back = (decimal known.1 ++ 41 ∷ []) ++ 41 ∷ 13 ∷ 10 ∷ [];
        whole = refl;
        first = (refl, h.validity, refl);
        second = (
          (known.1, 41),
          record {
            front = decimal known.1 ++ 41 ∷ [];
            back = 41 ∷ 13 ∷ 10 ∷ [];
            whole = refl;
            first = (refl, h.modseq, refl);
            second = (word.KnownEnd, (inl refl, refl), refl);
          },
        );
      },
    );
  },
)
  where
    regroup : (q a b : List ℕ) → q ++ (a ++ 32 ∷ (b ++ 41 ∷ 41 ∷ 13 ∷ 10 ∷ [])) ≡ q ++ ((a ++ 32 ∷ []) ++ ((b ++ 41 ∷ []) ++ 41 ∷ 13 ∷ 10 ∷ []))
    regroup q a b = simp append_assoc

select_known : (name x y q r : List ℕ) (known : ℕ × ℕ) → IsWord (codes "select ") y → IsFolderName name x → IsWord (codes "(qresync (") q → known.0 ≤ 4294967295
    → known.1 ≤ 18446744073709551615 → r ≡ y ++ ((x ++ 32 ∷ []) ++ (q ++ (decimal known.0 ++ 32 ∷ (decimal known.1 ++ 41 ∷ 41 ∷ 13 ∷ 10 ∷ []))))
    → Asks (command.Select name (Some known)) r
select_known name x y q r known w n k v m e =
    let a = decimal known.0 in
    let b = decimal known.1 in
    let p4 : List ℕ = b ++ 41 ∷ 41 ∷ [] in
    let p3 : List ℕ = 32 ∷ [] ++ p4 in
    let p2 : List ℕ = a ++ p3 in
    let p1 : List ℕ = (32 ∷ q) ++ p2 in
    then_of (y ++ (x ++ p1)) crlf r (e ∙ regroup y x q a b)
    (then_of y (x ++ p1) (y ++ (x ++ p1)) refl w
    (then_of x p1 (x ++ p1) refl n
    (then_of (32 ∷ q) p2 p1 refl (ap (λ (u : List ℕ). 32 ∷ u) k)
    (then_of a p3 p2 refl (refl, v)
    (then_of (32 ∷ []) p4 p3 refl refl
    (then_of b (41 ∷ 41 ∷ []) p4 refl (refl, m) refl)))))) refl
  where
    regroup : (y x q a b : List ℕ)
        → y ++ ((x ++ 32 ∷ []) ++ (q ++ (a ++ 32 ∷ (b ++ 41 ∷ 41 ∷ 13 ∷ 10 ∷ [])))) ≡ (y ++ (x ++ ((32 ∷ q) ++ (a ++ (32 ∷ [] ++ (b ++ 41 ∷ 41 ∷ [])))))) ++ crlf
    regroup y x q a b = simp append_assoc

select_new : (name x y r : List ℕ) → IsWord (codes "select ") y → IsFolderName name x → r ≡ y ++ ((x ++ 13 ∷ []) ++ 10 ∷ []) → Asks (command.Select name None) r
select_new name x y r w n e =
    then_of (y ++ (x ++ [])) crlf r (e ∙ regroup y x)
    (then_of y (x ++ []) (y ++ (x ++ [])) refl w (then_of x [] (x ++ []) refl n refl)) refl
  where
    regroup : (y x : List ℕ) → y ++ ((x ++ 13 ∷ []) ++ 10 ∷ []) ≡ (y ++ (x ++ [])) ++ crlf
    regroup y x = ap (λ (u : List ℕ). y ++ u) (append_assoc x (13 ∷ []) (10 ∷ [])) ∙ sym (ap (λ (u : List ℕ). (y ++ u) ++ crlf) (append-nil x) ∙ append_assoc y x crlf)

pub select_forth : (c : Command) (r : List ℕ) → Spelled word.Select SelectArguments c r → Asks c r
select_forth c r h = by (u.0.1 == 32) refl u.1.second
  where
    u : SelectArguments c h.1
    u = h.4

    n : (x : List ℕ) × (u.1.front ≡ x ++ u.0.1 ∷ []) × IsFolderName u.0.0 x × (may_follow follow.SpaceOrLine u.0.1 ≡ true)
    n = u.1.first

    all : (d : ℕ) → u.0.1 ≡ d → r ≡ h.0 ++ ((n.0 ++ d ∷ []) ++ u.1.back)
    all d e = h.2 ∙ ap (λ (v : List ℕ). h.0 ++ v) (u.1.whole ∙ ap (λ (v : List ℕ). v ++ u.1.back) (n.1 ∙ ap (λ (i : ℕ). n.0 ++ i ∷ []) e))

    carriage : (c : ℕ) → (c == 32 || c == 13) ≡ true → (c == 32) ≡ false → c ≡ 13
    carriage c e f = elim (or_cases (c == 32) (c == 13) e) [ inl g ↦ absurd (both_ways (c == 32) f g) | inr g ↦ eqb-true c 13 g ]

    by : (a : Bool) → (u.0.1 == 32) ≡ a → Selected a u.0.0 c u.1.back → Asks c r
    by true e s =
        let k = known_forth s.0 u.1.back s.1 in
        subst (λ (x : Command). Asks x r) (sym s.2)
        (select_known u.0.0 n.0 h.0 k.start r s.0 h.3 n.2 k.word_is k.validity k.modseq (all 32 (eqb-true u.0.1 32 e)
        ∙ ap (λ (v : List ℕ). h.0 ++ ((n.0 ++ 32 ∷ []) ++ v)) k.whole))
    by false e s =
        subst (λ (x : Command). Asks x r) (sym s.2)
        (select_new u.0.0 n.0 h.0 r h.3 n.2 (all 13 (carriage u.0.1 n.3 e) ∙ ap (λ (v : List ℕ). h.0 ++ ((n.0 ++ 13 ∷ []) ++ v))
        (line_feed u.1.back (fixed_word word.LineFeed s.0 u.1.back s.1))))

pub select_back : (name : List ℕ) (known : Option (ℕ × ℕ)) (r : List ℕ) → Asks (command.Select name known) r → Spelled word.Select SelectArguments (command.Select name known) r
select_back name None r h =
    let w = h.first in
    let x = w.second in
    let whole : r ≡ (w.front ++ (x.front ++ [])) ++ crlf =
    h.whole ∙ ap (λ (v : List ℕ). v ++ h.back) (w.whole ∙ ap (λ (v : List ℕ). w.front ++ v) (x.whole ∙ ap (λ (v : List ℕ). x.front ++ v) x.second))
    ∙ ap (λ (v : List ℕ). (w.front ++ (x.front ++ [])) ++ v) h.second in (
      w.front,
      (x.front ++ 13 ∷ []) ++ 10 ∷ [],
      whole ∙ regroup w.front x.front,
      w.first,
      (
        (name, 13),
        record {
          front = x.front ++ 13 ∷ [];
          back = 10 ∷ [];
          whole = refl;
          first = (x.front, refl, x.first, refl);
          second = (word.LineFeed, (inl refl, refl), refl);
        },
      ),
    )
  where
    regroup : (y x : List ℕ) → (y ++ (x ++ [])) ++ crlf ≡ y ++ ((x ++ 13 ∷ []) ++ 10 ∷ [])
    regroup y x = ap (λ (u : List ℕ). (y ++ u) ++ crlf) (append-nil x) ∙ append_assoc y x crlf ∙ sym (ap (λ (u : List ℕ). y ++ u) (append_assoc x (13 ∷ []) (10 ∷ [])))
select_back name (Some known) r h =
    let w = h.first in
    let x = w.second in
    let q = x.second in
    let a = q.second in
    let s = a.second in
    let b = s.second in
    let cut = word_split (32 ∷ []) (codes "(qresync (") q.front q.first in
    let space : q.front ≡ 32 ∷ cut.1 = cut.2 ∙ ap (λ (v : List ℕ). v ++ cut.1) (sign_word (32 ∷ []) cut.0 refl cut.3) in
    let close : b.back ≡ 41 ∷ 41 ∷ [] = sign_word (41 ∷ 41 ∷ []) b.back refl b.second in
    let inner : x.back ≡ (32 ∷ cut.1) ++ (decimal known.0 ++ (32 ∷ [] ++ (decimal known.1 ++ 41 ∷ 41 ∷ []))) =
    q.whole ∙ ap (λ (v : List ℕ). v ++ q.back) space ∙ ap (λ (v : List ℕ). (32 ∷ cut.1) ++ v)
    (a.whole ∙ ap (λ (v : List ℕ). v ++ a.back) a.first.0 ∙ ap (λ (v : List ℕ). decimal known.0 ++ v)
    (s.whole ∙ ap (λ (v : List ℕ). v ++ s.back) s.first ∙ ap (λ (v : List ℕ). 32 ∷ [] ++ v)
    (b.whole ∙ ap (λ (v : List ℕ). v ++ b.back) b.first.0 ∙ ap (λ (v : List ℕ). decimal known.1 ++ v) close))) in
    let whole : r ≡ (w.front ++ (x.front ++ ((32 ∷ cut.1) ++ (decimal known.0 ++ (32 ∷ [] ++ (decimal known.1 ++ 41 ∷ 41 ∷ [])))))) ++ crlf =
    h.whole ∙ ap (λ (v : List ℕ). v ++ h.back) (w.whole ∙ ap (λ (v : List ℕ). w.front ++ v) (x.whole ∙ ap (λ (v : List ℕ). x.front ++ v) inner))
    ∙ ap (λ (v : List ℕ). (w.front ++ (x.front ++ ((32 ∷ cut.1) ++ (decimal known.0 ++ (32 ∷ [] ++ (decimal known.1 ++ 41 ∷ 41 ∷ [])))))) ++ v) h.second in
    let tail : List ℕ = cut.1 ++ (decimal known.0 ++ 32 ∷ (decimal known.1 ++ 41 ∷ 41 ∷ 13 ∷ 10 ∷ [])) in (
      w.front,
      (x.front ++ 32 ∷ []) ++ tail,
      whole ∙ regroup w.front x.front cut.1 (decimal known.0) (decimal known.1),
      w.first,
      (
        (name, 32),
        record {
          front = x.front ++ 32 ∷ [];
          back = tail;
          whole = refl;
          first = (x.front, refl, x.first, refl);
          second = (known, known_back known tail (record { start = cut.1; whole = refl; word_is = cut.4; validity = a.first.1; modseq = b.first.1 }), refl);
        },
      ),
    )
  where
    regroup : (y x q a b : List ℕ)
        → (y ++ (x ++ ((32 ∷ q) ++ (a ++ (32 ∷ [] ++ (b ++ 41 ∷ 41 ∷ [])))))) ++ crlf ≡ y ++ ((x ++ 32 ∷ []) ++ (q ++ (a ++ 32 ∷ (b ++ 41 ∷ 41 ∷ 13 ∷ 10 ∷ []))))
    regroup y x q a b = simp append_assoc

-- ---- APPEND

-- what follows the name and its space
record AppendText (flags : List (List ℕ)) (date : ℤ) (message t : List ℕ) : Type 0 where
  names : List (List ℕ)
  date_text : List ℕ
  literal : List ℕ
  whole : t ≡ (40 ∷ joined names ++ 41 ∷ []) ++ (32 ∷ date_text ++ (32 ∷ literal ++ crlf))
  names_are : IsNames names (40 ∷ joined names ++ 41 ∷ [])
  flags_are : flags ≡ kept names
  date_is : IsDateTime date date_text
  message_is : IsCounted message literal

-- the octets of a literal and the line's end, and what stands before them
literal_end : (g o : List ℕ) → (g ++ 125 ∷ 13 ∷ 10 ∷ (o ++ 13 ∷ [])) ++ 10 ∷ [] ≡ (g ++ 125 ∷ 13 ∷ 10 ∷ o) ++ crlf
literal_end g o =
    append_assoc g (125 ∷ 13 ∷ 10 ∷ (o ++ 13 ∷ [])) (10 ∷ []) ∙ ap (λ (v : List ℕ). g ++ 125 ∷ 13 ∷ 10 ∷ v) (append_assoc o (13 ∷ []) (10 ∷ []))
    ∙ sym (append_assoc g (125 ∷ 13 ∷ 10 ∷ o) crlf)

append_end : (n d g o : List ℕ) → 40 ∷ [] ++ ((n ++ 41 ∷ []) ++ (32 ∷ [] ++ (d ++ (32 ∷ 123 ∷ [] ++ ((g ++ 125 ∷ 13 ∷ 10 ∷ (o ++ 13 ∷ [])) ++ 10 ∷ [])))))
    ≡ (40 ∷ n ++ 41 ∷ []) ++ (32 ∷ d ++ (32 ∷ (123 ∷ g ++ 125 ∷ 13 ∷ 10 ∷ o) ++ crlf))
append_end n d g o = ap (λ (v : List ℕ). 40 ∷ ((n ++ 41 ∷ []) ++ (32 ∷ (d ++ (32 ∷ 123 ∷ v))))) (literal_end g o)

append_text : (g : List (List ℕ) → ℤ → List ℕ → Command) (c : Command) (t : List ℕ) → Marked g c t
    → (flags : List (List ℕ)) × (date : ℤ) × (message : List ℕ) × (c ≡ g flags date message)
    × AppendText flags date message t
append_text g c t h =
    let o = h.1 in
    let f = o.second in
    let fs = f.1.first in
    let p = f.1.second in
    let d = p.1.second in
    let m = d.1.second in
    let s = m.1.second in
    let l = s.1.first in
    let e = s.1.second in
    let open_is : o.front ≡ 40 ∷ [] = sign_word (40 ∷ []) o.front refl (fixed_word word.Open h.0 o.front o.first) in
    let space_is : p.1.front ≡ 32 ∷ [] = sign_word (32 ∷ []) p.1.front refl (fixed_word word.Space p.0 p.1.front p.1.first) in
    let brace_is : m.1.front ≡ 32 ∷ 123 ∷ [] = sign_word (32 ∷ 123 ∷ []) m.1.front refl (fixed_word word.LiteralOpen m.0 m.1.front m.1.first) in
    let feed : s.1.back ≡ 10 ∷ [] = line_feed s.1.back (fixed_word word.LineFeed e.0 s.1.back e.1) in
    let stop : l.stop ≡ 13 = carriage_of l.stop l.may in
    let literal : List ℕ = 123 ∷ l.digits ++ 125 ∷ 13 ∷ 10 ∷ l.octets in
    let last : s.1.front ≡ l.digits ++ 125 ∷ 13 ∷ 10 ∷ (l.octets ++ 13 ∷ []) = l.whole ∙ ap (λ (n : ℕ). l.digits ++ 125 ∷ 13 ∷ 10 ∷ (l.octets ++ n ∷ [])) stop in
    let all : t ≡ 40 ∷ [] ++ ((joined fs.0 ++ 41 ∷ []) ++ (32 ∷ [] ++ (d.1.front ++ (32 ∷ 123 ∷ [] ++ ((l.digits ++ 125 ∷ 13 ∷ 10 ∷ (l.octets ++ 13 ∷ [])) ++ 10 ∷ []))))) =
    o.whole ∙ ap (λ (v : List ℕ). v ++ o.back) open_is ∙ ap (λ (v : List ℕ). 40 ∷ [] ++ v)
    (f.1.whole ∙ ap (λ (v : List ℕ). v ++ f.1.back) fs.2 ∙ ap (λ (v : List ℕ). (joined fs.0 ++ 41 ∷ []) ++ v)
    (p.1.whole ∙ ap (λ (v : List ℕ). v ++ p.1.back) space_is ∙ ap (λ (v : List ℕ). 32 ∷ [] ++ v)
    (d.1.whole ∙ ap (λ (v : List ℕ). d.1.front ++ v)
    (m.1.whole ∙ ap (λ (v : List ℕ). v ++ m.1.back) brace_is ∙ ap (λ (v : List ℕ). 32 ∷ 123 ∷ [] ++ v)
    (s.1.whole ∙ ap (λ (v : List ℕ). v ++ s.1.back) last ∙ ap (λ (v : List ℕ). (l.digits ++ 125 ∷ 13 ∷ 10 ∷ (l.octets ++ 13 ∷ [])) ++ v) feed))))) in (
      f.0,
      d.0,
      s.0,
      e.2,
      record {
        names = fs.0;
        date_text = d.1.front;
        literal = literal;
        whole = all ∙ regroup (joined fs.0) d.1.front l.digits l.octets;
        names_are = (fs.1, refl);
        flags_are = fs.3;
        date_is = d.1.first;
        message_is = record {
          digits = l.digits;
          octets = l.octets;
          whole = refl;
          are_digits = l.are_digits;
          some = l.some;
          few = l.few;
          counted = l.counted;
          most = l.most;
          inside = l.inside;
          string = l.string;
        };
      },
    )
  where
    regroup : (n d g o : List ℕ) → 40 ∷ [] ++ ((n ++ 41 ∷ []) ++ (32 ∷ [] ++ (d ++ (32 ∷ 123 ∷ [] ++ ((g ++ 125 ∷ 13 ∷ 10 ∷ (o ++ 13 ∷ [])) ++ 10 ∷ [])))))
        ≡ (40 ∷ n ++ 41 ∷ []) ++ (32 ∷ d ++ (32 ∷ (123 ∷ g ++ 125 ∷ 13 ∷ 10 ∷ o) ++ crlf))
    regroup n d g o = append_end n d g o

text_append : (g : List (List ℕ) → ℤ → List ℕ → Command) (flags : List (List ℕ)) (date : ℤ) (message t : List ℕ) → AppendText flags date message t
    → Marked g (g flags date message) t
text_append g flags date message t h =
    let l = h.message_is in
    let last : List ℕ = (l.digits ++ 125 ∷ 13 ∷ 10 ∷ (l.octets ++ 13 ∷ [])) ++ 10 ∷ [] in
    let dated : List ℕ = h.date_text ++ (32 ∷ 123 ∷ [] ++ last) in (
      word.Open,
      record {
        front = 40 ∷ [];
        back = (joined h.names ++ 41 ∷ []) ++ (32 ∷ [] ++ dated);
        whole =
            h.whole ∙ ap (λ (v : List ℕ). (40 ∷ joined h.names ++ 41 ∷ []) ++ (32 ∷ h.date_text ++ (32 ∷ v ++ crlf))) l.whole
            ∙ regroup (joined h.names) h.date_text l.digits l.octets;
        first = (inl refl, refl);
        second = (
          flags,
          record {
            front = joined h.names ++ 41 ∷ [];
            back = 32 ∷ [] ++ dated;
            whole = refl;
            first = (h.names, h.names_are.0, refl, h.flags_are);
            second = (
              word.Space,
              record {
                front = 32 ∷ [];
                back = dated;
                whole = refl;
                first = (inl refl, refl);
                second = (
                  date,
                  record {
                    front = h.date_text;
                    back = 32 ∷ 123 ∷ [] ++ last;
                    whole = refl;
                    first = h.date_is;
                    second = (
                      word.LiteralOpen,
                      record {
                        front = 32 ∷ 123 ∷ [];
                        back = last;
                        whole = refl;
                        first = (inl refl, refl);
                        second = (
                          message,
                          record {
                            front = l.digits ++ 125 ∷ 13 ∷ 10 ∷ (l.octets ++ 13 ∷ []);
                            back = 10 ∷ [];
                            whole = refl;
                            first = record {
                              digits = l.digits;
                              octets = l.octets;
                              stop = 13;
                              whole = refl;
                              are_digits = l.are_digits;
                              some = l.some;
                              few = l.few;
                              counted = l.counted;
                              most = l.most;
                              inside = l.inside;
                              string = l.string;
                              may = refl;
                            };
                            second = (word.LineFeed, (inl refl, refl), refl);
                          },
                        );
                      },
                    );
                  },
                );
              },
            );
          },
        );
      },
    )
  where
    regroup : (n d g o : List ℕ) → (40 ∷ n ++ 41 ∷ []) ++ (32 ∷ d ++ (32 ∷ (123 ∷ g ++ 125 ∷ 13 ∷ 10 ∷ o) ++ crlf))
        ≡ 40 ∷ [] ++ ((n ++ 41 ∷ []) ++ (32 ∷ [] ++ (d ++ (32 ∷ 123 ∷ [] ++ ((g ++ 125 ∷ 13 ∷ 10 ∷ (o ++ 13 ∷ [])) ++ 10 ∷ [])))))
    regroup n d g o = sym (append_end n d g o)

pub append_forth : (c : Command) (r : List ℕ) → Spelled word.Append AppendArguments c r → Asks c r
append_forth c r h =
    let u = h.4 in
    let n = u.1.first in
    let a = append_text (command.Append u.0.0) c u.1.back u.1.second in
    let t = a.4 in
    let f : List ℕ = 40 ∷ joined t.names ++ 41 ∷ [] in
    let p6 : List ℕ = 32 ∷ [] ++ t.literal in
    let p5 : List ℕ = t.date_text ++ p6 in
    let p4 : List ℕ = 32 ∷ [] ++ p5 in
    let p3 : List ℕ = f ++ p4 in
    let p2 : List ℕ = 32 ∷ [] ++ p3 in
    let p1 : List ℕ = n.0 ++ p2 in
    let all : r ≡ h.0 ++ ((n.0 ++ 32 ∷ []) ++ (f ++ (32 ∷ t.date_text ++ (32 ∷ t.literal ++ crlf)))) =
    h.2 ∙ ap (λ (v : List ℕ). h.0 ++ v)
    (u.1.whole ∙ ap (λ (v : List ℕ). v ++ u.1.back) (n.1 ∙ ap (λ (i : ℕ). n.0 ++ i ∷ []) (space_of u.0.1 n.3)) ∙ ap (λ (v : List ℕ). (n.0 ++ 32 ∷ []) ++ v) t.whole) in
    subst (λ (x : Command). Asks x r) (sym a.3)
    (then_of (h.0 ++ p1) crlf r (all ∙ regroup h.0 n.0 f t.date_text t.literal)
    (then_of h.0 p1 (h.0 ++ p1) refl h.3
    (then_of n.0 p2 p1 refl n.2
    (then_of (32 ∷ []) p3 p2 refl refl
    (then_of f p4 p3 refl (t.names, t.names_are, t.flags_are)
    (then_of (32 ∷ []) p5 p4 refl refl
    (then_of t.date_text p6 p5 refl t.date_is
    (then_of (32 ∷ []) t.literal p6 refl refl t.message_is))))))) refl)
  where
    regroup : (y n f d l : List ℕ) → y ++ ((n ++ 32 ∷ []) ++ (f ++ (32 ∷ d ++ (32 ∷ l ++ crlf)))) ≡ (y ++ (n ++ (32 ∷ [] ++ (f ++ (32 ∷ [] ++ (d ++ (32 ∷ [] ++ l))))))) ++ crlf
    regroup y n f d l = simp append_assoc

pub append_back : (name : List ℕ) (flags : List (List ℕ)) (date : ℤ) (message r : List ℕ) → Asks (command.Append name flags date message) r
    → Spelled word.Append AppendArguments (command.Append name flags date message) r
append_back name flags date message r h =
    let w = h.first in
    let n = w.second in
    let s1 = n.second in
    let f = s1.second in
    let s2 = f.second in
    let d = s2.second in
    let s3 = d.second in
    let ns = f.first in
    let ft : List ℕ = 40 ∷ joined ns.0 ++ 41 ∷ [] in
    let all : r ≡ (w.front ++ (n.front ++ (32 ∷ [] ++ (ft ++ (32 ∷ [] ++ (d.front ++ (32 ∷ [] ++ s3.back))))))) ++ crlf =
    h.whole ∙ ap (λ (v : List ℕ). v ++ h.back) (w.whole ∙ ap (λ (v : List ℕ). w.front ++ v)
    (n.whole ∙ ap (λ (v : List ℕ). n.front ++ v) (s1.whole ∙ ap (λ (v : List ℕ). v ++ s1.back) s1.first ∙ ap (λ (v : List ℕ). 32 ∷ [] ++ v)
    (f.whole ∙ ap (λ (v : List ℕ). v ++ f.back) ns.1.1 ∙ ap (λ (v : List ℕ). ft ++ v) (s2.whole ∙ ap (λ (v : List ℕ). v ++ s2.back) s2.first ∙ ap (λ (v : List ℕ). 32 ∷ [] ++ v)
    (d.whole ∙ ap (λ (v : List ℕ). d.front ++ v) (s3.whole ∙ ap (λ (v : List ℕ). v ++ s3.back) s3.first)))))))
    ∙ ap (λ (v : List ℕ). (w.front ++ (n.front ++ (32 ∷ [] ++ (ft ++ (32 ∷ [] ++ (d.front ++ (32 ∷ [] ++ s3.back))))))) ++ v) h.second in
    let tail : List ℕ = ft ++ (32 ∷ d.front ++ (32 ∷ s3.back ++ crlf)) in (
      w.front,
      (n.front ++ 32 ∷ []) ++ tail,
      all ∙ regroup w.front n.front ft d.front s3.back,
      w.first,
      (
        (name, 32),
        record {
          front = n.front ++ 32 ∷ [];
          back = tail;
          whole = refl;
          first = (n.front, refl, n.first, refl);
          second = text_append (command.Append name) flags date message tail (record {
            names = ns.0;
            date_text = d.front;
            literal = s3.back;
            whole = refl;
            names_are = (ns.1.0, refl);
            flags_are = ns.2;
            date_is = d.first;
            message_is = s3.second;
          });
        },
      ),
    )
  where
    regroup : (y n f d l : List ℕ) → (y ++ (n ++ (32 ∷ [] ++ (f ++ (32 ∷ [] ++ (d ++ (32 ∷ [] ++ l))))))) ++ crlf ≡ y ++ ((n ++ 32 ∷ []) ++ (f ++ (32 ∷ d ++ (32 ∷ l ++ crlf))))
    regroup y n f d l = simp append_assoc
