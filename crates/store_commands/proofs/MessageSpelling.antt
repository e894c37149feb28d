-- The parts of commands on messages are what the grammar says of them.
use Rattle.std.proofs.Common.{◌≡◌, ℕ, ◌≤◌, Bool, true, false, List, [], ◌∷◌, ◌++◌, cond, refl, sym, ap, subst, ◌∙◌, append_assoc, inl, inr}
use Rattle.std.specs.Prelude.{codes}
use Rattle.std.specs.Fmt.{decimal}
use Rattle.imap_types.specs.declared.command.Command.{Command}
use Rattle.imap_types.specs.declared.command.Command.TheVariants as command
use Rattle.imap_types.specs.Texts.{IsWord, crlf}
use Rattle.imap_types.specs.Lines.{joined}
use Rattle.command_parts.specs.Fields.{IsFlagList}
use Rattle.command_parts.specs.declared.fixed_text.FixedText.{FixedText}
use Rattle.command_parts.specs.declared.fixed_text.FixedText.TheVariants as word
use Rattle.command_parts.specs.reading.FixedTexts.{fixed_text}
use Rattle.store_commands.specs.reading.Arguments.{is_add}
use Rattle.command_parts.proofs.Choosing.{OneOf, Choices}
use Rattle.command_parts.proofs.Parts.{fixed_word, line_feed}
use Rattle.store_commands.proofs.FolderSpelling.{then_of, word_join, word_split, sign_word, space_of, carriage_of, line_of, Asks, Spelled}
use Rattle.store_commands.proofs.MessageCommands.{ExpungeArguments, MoveArguments, StoreArguments}

-- ---- EXPUNGE

pub expunge_forth : (c : Command) (r : List ℕ) → Spelled word.Expunge ExpungeArguments c r → Asks c r
expunge_forth c r h =
    let u = h.4 in
    let n = u.1.first in
    let e = u.1.second in
    let a = decimal u.0.0 in
    let front : u.1.front ≡ a ++ 13 ∷ [] = n.0 ∙ ap (λ (d : ℕ). a ++ d ∷ []) (carriage_of u.0.1 n.2) in
    let all : r ≡ h.0 ++ ((a ++ 13 ∷ []) ++ 10 ∷ []) =
    h.2 ∙ ap (λ (v : List ℕ). h.0 ++ v) (u.1.whole ∙ ap (λ (v : List ℕ). v ++ u.1.back) front
    ∙ ap (λ (v : List ℕ). (a ++ 13 ∷ []) ++ v) (line_feed u.1.back (fixed_word word.LineFeed e.0 u.1.back e.1))) in
    subst (λ (x : Command). Asks x r) (sym e.2)
    (then_of (h.0 ++ a) crlf r (all ∙ regroup h.0 a) (then_of h.0 a (h.0 ++ a) refl h.3 (refl, n.1)) refl)
  where
    regroup : (y a : List ℕ) → y ++ ((a ++ 13 ∷ []) ++ 10 ∷ []) ≡ (y ++ a) ++ crlf
    regroup y a = simp append_assoc

pub expunge_back : (uid : ℕ) (r : List ℕ) → Asks (command.Expunge uid) r → Spelled word.Expunge ExpungeArguments (command.Expunge uid) r
expunge_back uid r h =
    let w = h.first in
    let a = decimal uid in
    let all : r ≡ (w.front ++ a) ++ crlf =
    h.whole ∙ ap (λ (v : List ℕ). v ++ h.back) (w.whole ∙ ap (λ (v : List ℕ). w.front ++ v) w.second.0) ∙ ap (λ (v : List ℕ). (w.front ++ a) ++ v) h.second in (
      w.front,
      (a ++ 13 ∷ []) ++ 10 ∷ [],
      all ∙ regroup w.front a,
      w.first,
      (
        (uid, 13),
        record {
          front = a ++ 13 ∷ [];
          back = 10 ∷ [];
          whole = refl;
          first = (refl, w.second.1, refl);
          second = (word.LineFeed, (inl refl, refl), refl);
        },
      ),
    )
  where
    regroup : (y a : List ℕ) → (y ++ a) ++ crlf ≡ y ++ ((a ++ 13 ∷ []) ++ 10 ∷ [])
    regroup y a = simp append_assoc

-- ---- MOVE

pub move_forth : (c : Command) (r : List ℕ) → Spelled word.Move MoveArguments c r → Asks c r
move_forth c r h =
    let u = h.4 in
    let n = u.1.first in
    let s = u.1.second.1 in
    let a = decimal u.0.0 in
    let front : u.1.front ≡ a ++ 32 ∷ [] = n.0 ∙ ap (λ (d : ℕ). a ++ d ∷ []) (space_of u.0.1 n.2) in
    let all : r ≡ h.0 ++ ((a ++ 32 ∷ []) ++ (s.0 ++ crlf)) =
    h.2 ∙ ap (λ (v : List ℕ). h.0 ++ v) (u.1.whole ∙ ap (λ (v : List ℕ). v ++ u.1.back) front ∙ ap (λ (v : List ℕ). (a ++ 32 ∷ []) ++ v) s.1) in
    subst (λ (x : Command). Asks x r) (sym u.1.second.2)
    (then_of (h.0 ++ (a ++ (32 ∷ [] ++ s.0))) crlf r (all ∙ regroup h.0 a s.0)
    (then_of h.0 (a ++ (32 ∷ [] ++ s.0)) (h.0 ++ (a ++ (32 ∷ [] ++ s.0))) refl h.3
    (then_of a (32 ∷ [] ++ s.0) (a ++ (32 ∷ [] ++ s.0)) refl (refl, n.1) (then_of (32 ∷ []) s.0 (32 ∷ [] ++ s.0) refl refl s.2))) refl)
  where
    regroup : (y a s : List ℕ) → y ++ ((a ++ 32 ∷ []) ++ (s ++ crlf)) ≡ (y ++ (a ++ (32 ∷ [] ++ s))) ++ crlf
    regroup y a s = simp append_assoc

pub move_back : (uid : ℕ) (name r : List ℕ) → Asks (command.Move uid name) r → Spelled word.Move MoveArguments (command.Move uid name) r
move_back uid name r h =
    let w = h.first in
    let n = w.second in
    let s = n.second in
    let a = decimal uid in
    let all : r ≡ (w.front ++ (a ++ (32 ∷ [] ++ s.back))) ++ crlf =
    h.whole ∙ ap (λ (v : List ℕ). v ++ h.back) (w.whole ∙ ap (λ (v : List ℕ). w.front ++ v)
    (n.whole ∙ ap (λ (v : List ℕ). v ++ n.back) n.first.0 ∙ ap (λ (v : List ℕ). a ++ v) (s.whole ∙ ap (λ (v : List ℕ). v ++ s.back) s.first)))
    ∙ ap (λ (v : List ℕ). (w.front ++ (a ++ (32 ∷ [] ++ s.back))) ++ v) h.second in (
      w.front,
      (a ++ 32 ∷ []) ++ (s.back ++ crlf),
      all ∙ regroup w.front a s.back,
      w.first,
      (
        (uid, 32),
        record {
          front = a ++ 32 ∷ [];
          back = s.back ++ crlf;
          whole = refl;
          first = (refl, n.first.1, refl);
          second = (name, (s.back, refl, s.second), refl);
        },
      ),
    )
  where
    regroup : (y a s : List ℕ) → (y ++ (a ++ (32 ∷ [] ++ s))) ++ crlf ≡ y ++ ((a ++ 32 ∷ []) ++ (s ++ crlf))
    regroup y a s = simp append_assoc

-- ---- STORE

-- the text of a change of flags, its sign and its flags
store_asks : (uid : ℕ) (add : Bool) (flags ns : List (List ℕ)) (y q r : List ℕ) → IsWord (codes "uid store ") y → uid ≤ 4294967295
    → IsWord (cond add (codes "+flags ") (codes "-flags ")) q → IsFlagList flags (40 ∷ joined ns ++ 41 ∷ [])
    → r ≡ y ++ ((decimal uid ++ 32 ∷ []) ++ ((q ++ 40 ∷ []) ++ ((joined ns ++ 41 ∷ []) ++ crlf))) → Asks (command.Store uid add flags) r
store_asks uid add flags ns y q r w le k f e = by add k
  where
    a : List ℕ
    a = decimal uid

    p : List ℕ
    p = 40 ∷ joined ns ++ 41 ∷ []

    regroup : (y a q n : List ℕ) → y ++ ((a ++ 32 ∷ []) ++ ((q ++ 40 ∷ []) ++ ((n ++ 41 ∷ []) ++ crlf))) ≡ (y ++ (a ++ ((32 ∷ q) ++ (40 ∷ n ++ 41 ∷ [])))) ++ crlf
    regroup y a q n = simp append_assoc

    by : (add : Bool) → IsWord (cond add (codes "+flags ") (codes "-flags ")) q → Asks (command.Store uid add flags) r
    by true k = then_of (y ++ (a ++ ((32 ∷ q) ++ p))) crlf r (e ∙ regroup y a q (joined ns))
        (then_of y (a ++ ((32 ∷ q) ++ p)) (y ++ (a ++ ((32 ∷ q) ++ p))) refl w
        (then_of a ((32 ∷ q) ++ p) (a ++ ((32 ∷ q) ++ p)) refl (refl, le) (then_of (32 ∷ q) p ((32 ∷ q) ++ p) refl (ap (λ (u : List ℕ). 32 ∷ u) k) f))) refl
    by false k = then_of (y ++ (a ++ ((32 ∷ q) ++ p))) crlf r (e ∙ regroup y a q (joined ns))
        (then_of y (a ++ ((32 ∷ q) ++ p)) (y ++ (a ++ ((32 ∷ q) ++ p))) refl w
        (then_of a ((32 ∷ q) ++ p) (a ++ ((32 ∷ q) ++ p)) refl (refl, le) (then_of (32 ∷ q) p ((32 ∷ q) ++ p) refl (ap (λ (u : List ℕ). 32 ∷ u) k) f))) refl

-- a change is one of two texts
change_cut : (k : FixedText) (t : List ℕ) → Choices (word.Add ∷ word.Remove ∷ []) k t → (q : List ℕ) × (t ≡ q ++ 40 ∷ []) × IsWord
    (cond (is_add k) (codes "+flags ") (codes "-flags ")) q
change_cut k t (inl e, h) =
    let s = word_split (codes "+flags ") (40 ∷ []) t (h ∙ ap fixed_text e) in
    (s.0, s.2 ∙ ap (λ (v : List ℕ). s.0 ++ v) (sign_word (40 ∷ []) s.1 refl s.4), s.3 ∙ ap (λ (x : FixedText). cond (is_add x) (codes "+flags ") (codes "-flags ")) (sym e))
change_cut k t (inr (inl e), h) =
    let s = word_split (codes "-flags ") (40 ∷ []) t (h ∙ ap fixed_text e) in
    (s.0, s.2 ∙ ap (λ (v : List ℕ). s.0 ++ v) (sign_word (40 ∷ []) s.1 refl s.4), s.3 ∙ ap (λ (x : FixedText). cond (is_add x) (codes "+flags ") (codes "-flags ")) (sym e))
change_cut k t (inr (inr i), h) = absurd i

pub store_forth : (c : Command) (r : List ℕ) → Spelled word.Store StoreArguments c r → Asks c r
store_forth c r h =
    let u = h.4 in
    let n = u.1.first in
    let k = u.1.second in
    let q = change_cut k.0 k.1.front k.1.first in
    let f = k.1.second in
    let fs = f.1.first in
    let e = f.1.second in
    let a = decimal u.0.0 in
    let front : u.1.front ≡ a ++ 32 ∷ [] = n.0 ∙ ap (λ (d : ℕ). a ++ d ∷ []) (space_of u.0.1 n.2) in
    let all : r ≡ h.0 ++ ((a ++ 32 ∷ []) ++ ((q.0 ++ 40 ∷ []) ++ ((joined fs.0 ++ 41 ∷ []) ++ crlf))) =
    h.2 ∙ ap (λ (v : List ℕ). h.0 ++ v) (u.1.whole ∙ ap (λ (v : List ℕ). v ++ u.1.back) front ∙ ap (λ (v : List ℕ). (a ++ 32 ∷ []) ++ v)
    (k.1.whole ∙ ap (λ (v : List ℕ). v ++ k.1.back) q.1 ∙ ap (λ (v : List ℕ). (q.0 ++ 40 ∷ []) ++ v)
    (f.1.whole ∙ ap (λ (v : List ℕ). v ++ f.1.back) fs.2 ∙ ap (λ (v : List ℕ). (joined fs.0 ++ 41 ∷ []) ++ v) (line_of f.1.back (fixed_word word.LineEnd e.0 f.1.back e.1))))) in
    subst (λ (x : Command). Asks x r) (sym e.2)
    (store_asks u.0.0 (is_add k.0) f.0 fs.0 h.0 q.0 r h.3 n.1 q.2 (fs.0, (fs.1, refl), fs.3) all)

store_parts : (uid : ℕ) (k : FixedText) (add : Bool) (flags : List (List ℕ)) (y q f r : List ℕ) → OneOf k (word.Add ∷ word.Remove ∷ []) → is_add k ≡ add
    → IsWord (codes "uid store ") y
    → uid ≤ 4294967295 → IsWord (fixed_text k) (q ++ 40 ∷ []) → IsFlagList flags f → r ≡ (y ++ (decimal uid ++ ((32 ∷ q) ++ f))) ++ crlf
    → Spelled word.Store StoreArguments (command.Store uid add flags) r
store_parts uid k add flags y q f r one same w le h ns e =
    let a = decimal uid in
    let n = joined ns.0 in
    let tail : List ℕ = (n ++ 41 ∷ []) ++ crlf in (
      y,
      (a ++ 32 ∷ []) ++ ((q ++ 40 ∷ []) ++ tail),
      e ∙ ap (λ (v : List ℕ). (y ++ (a ++ ((32 ∷ q) ++ v))) ++ crlf) ns.1.1 ∙ regroup y a q n,
      w,
      (
        (uid, 32),
        record {
          front = a ++ 32 ∷ [];
          back = (q ++ 40 ∷ []) ++ tail;
          whole = refl;
          first = (refl, le, refl);
          second = (
            k,
            record {
              front = q ++ 40 ∷ [];
              back = tail;
              whole = refl;
              first = (one, h);
              second = (
                flags,
                record {
                  front = n ++ 41 ∷ [];
                  back = crlf;
                  whole = refl;
                  first = (ns.0, ns.1.0, refl, ns.2);
                  second = (word.LineEnd, (inl refl, refl), ap (λ (b : Bool). command.Store uid b flags) (sym same));
                },
              );
            },
          );
        },
      ),
    )
  where
    regroup : (y a q n : List ℕ) → (y ++ (a ++ ((32 ∷ q) ++ (40 ∷ n ++ 41 ∷ [])))) ++ crlf ≡ y ++ ((a ++ 32 ∷ []) ++ ((q ++ 40 ∷ []) ++ ((n ++ 41 ∷ []) ++ crlf)))
    regroup y a q n = simp append_assoc

pub store_back : (uid : ℕ) (add : Bool) (flags : List (List ℕ)) (r : List ℕ) → Asks (command.Store uid add flags) r
    → Spelled word.Store StoreArguments (command.Store uid add flags) r
store_back uid true flags r h =
    let w = h.first in
    let n = w.second in
    let f = n.second in
    let s = word_split (32 ∷ []) (codes "+flags ") f.front f.first in
    let sign : f.front ≡ 32 ∷ s.1 = s.2 ∙ ap (λ (v : List ℕ). v ++ s.1) (sign_word (32 ∷ []) s.0 refl s.3) in
    store_parts uid word.Add true flags w.front s.1 f.back r (inl refl) refl w.first n.first.1 (word_join (codes "+flags ") (40 ∷ []) s.1 (40 ∷ []) s.4 refl) f.second
    (h.whole ∙ ap (λ (v : List ℕ). v ++ h.back) (w.whole ∙ ap (λ (v : List ℕ). w.front ++ v) (n.whole ∙ ap (λ (v : List ℕ). v ++ n.back) n.first.0
    ∙ ap (λ (v : List ℕ). decimal uid ++ v) (f.whole ∙ ap (λ (v : List ℕ). v ++ f.back) sign)))
    ∙ ap (λ (v : List ℕ). (w.front ++ (decimal uid ++ ((32 ∷ s.1) ++ f.back))) ++ v) h.second)
store_back uid false flags r h =
    let w = h.first in
    let n = w.second in
    let f = n.second in
    let s = word_split (32 ∷ []) (codes "-flags ") f.front f.first in
    let sign : f.front ≡ 32 ∷ s.1 = s.2 ∙ ap (λ (v : List ℕ). v ++ s.1) (sign_word (32 ∷ []) s.0 refl s.3) in
    store_parts uid word.Remove false flags w.front s.1 f.back r (inr (inl refl)) refl w.first n.first.1 (word_join (codes "-flags ") (40 ∷ []) s.1 (40 ∷ []) s.4 refl) f.second
    (h.whole ∙ ap (λ (v : List ℕ). v ++ h.back) (w.whole ∙ ap (λ (v : List ℕ). w.front ++ v) (n.whole ∙ ap (λ (v : List ℕ). v ++ n.back) n.first.0
    ∙ ap (λ (v : List ℕ). decimal uid ++ v) (f.whole ∙ ap (λ (v : List ℕ). v ++ f.back) sign)))
    ∙ ap (λ (v : List ℕ). (w.front ++ (decimal uid ++ ((32 ∷ s.1) ++ f.back))) ++ v) h.second)
