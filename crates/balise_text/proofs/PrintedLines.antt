-- The line of an entry, part by part: serial, edit, what is noted, the line's end.
use Rattle.std.proofs.Common.{◌≡◌, ◌∙◌, ℕ, List, [], ◌∷◌, ◌++◌, Option, codes, decimal, refl, sym, ap, append_assoc}
use Rattle.balise_lines.specs.declared.counted.Counted.{Counted}
use Rattle.balise_lines.specs.Writing.{WritesAll}
use Rattle.balise_lines.proofs.PartsWritten.{Wrote, wrote_none, wrote_more}
use Rattle.balise_rules.specs.Journal.{Line}
use Rattle.balise_text.specs.Texts.{Text, behind_marks}
use Rattle.balise_text.specs.Entries.{edit_words, noted_words, entry_text}
use Rattle.balise_text.proofs.Lists.{behind-append}

abbrev pub end : Text
end = codes "\n"

abbrev pub edit_part : Line → Text
edit_part l = behind_marks 32 (edit_words l.edit)

abbrev pub noted_part : Line → Text
noted_part l = behind_marks 32 (noted_words l.noted)

-- the whole line
abbrev pub text : Line → Text
text l = entry_text l ++ end

pub behind_serial : (l : Line) → text l ≡ decimal l.serial ++ (edit_part l ++ (noted_part l ++ end))
behind_serial l =
    append_assoc (decimal l.serial) (behind_marks 32 (edit_words l.edit ++ noted_words l.noted)) end
    ∙ ap (λ (t : Text). decimal l.serial ++ t) (ap (λ (t : Text). t ++ end) (behind-append 32 (edit_words l.edit) (noted_words l.noted)) ∙ append_assoc (edit_part l) (noted_part l) end)

-- the same, where the words of the edit come in two parts
pub behind_words : (l : Line) (ws bs ns : List Text) → edit_words l.edit ≡ ws ++ bs → ns ≡ noted_words l.noted → text l ≡ decimal l.serial ++ (behind_marks 32 ws ++ (behind_marks 32 bs ++ (behind_marks 32 ns ++ end)))
behind_words l ws bs ns e n =
    let rest : Text = behind_marks 32 ns ++ end in
    behind_serial l ∙ ap (λ (t : Text). decimal l.serial ++ t)
    (ap (λ (vs : List Text). behind_marks 32 vs ++ (noted_part l ++ end)) e ∙ ap (λ (vs : List Text). behind_marks 32 (ws ++ bs) ++ (behind_marks 32 vs ++ end)) (sym n)
    ∙ ap (λ (t : Text). t ++ rest) (behind-append 32 ws bs) ∙ append_assoc (behind_marks 32 ws) (behind_marks 32 bs) rest)

-- the line put together from its end, where the edit has no telegrams
pub from_end : (l : Line) (ws bs ns : List Text) → bs ≡ [] → edit_words l.edit ≡ ws ++ bs → ns ≡ noted_words l.noted → (s : ℕ) → s ≡ l.serial → (nothing one noted some all : Text) →
    nothing ≡ [] → one ≡ 10 ∷ nothing → noted ≡ behind_marks 32 ns ++ one → some ≡ behind_marks 32 ws ++ noted → all ≡ decimal s ++ some → all ≡ text l
from_end l ws bs ns b e n s is nothing one noted some all z o m w d =
    d ∙ ap (λ (k : ℕ). decimal k ++ some) is
    ∙ ap (λ (t : Text). decimal l.serial ++ t) (w ∙ ap (λ (t : Text). behind_marks 32 ws ++ t) (m ∙ ap (λ (t : Text). behind_marks 32 ns ++ t) (o ∙ ap (λ (t : Text). 10 ∷ t) z)))
    ∙ sym (behind_words l ws [] ns (e ∙ ap (λ (vs : List Text). ws ++ vs) b) n)

-- What is left to write after each part.

-- the parts of the line of an entry
pub record Parts : Type 0 where
  pub serial : ℕ
  pub words : List Text
  pub telegrams : List Text
  pub noted : List Text

abbrev pub after_telegrams : Parts → Text
after_telegrams p = behind_marks 32 p.noted ++ end

abbrev pub after_words : Parts → Text
after_words p = behind_marks 32 p.telegrams ++ after_telegrams p

abbrev pub after_serial : Parts → Text
after_serial p = behind_marks 32 p.words ++ after_words p

abbrev pub all : Parts → Text
all p = decimal p.serial ++ after_serial p

pub wrote_serial : {W : Type 0} (contents : W → Option (List ℕ)) (p : Parts) (old new : Counted W) → WritesAll contents old new (decimal p.serial) → Wrote contents (all p) (after_serial p) old new
wrote_serial contents p old new a = wrote_more contents (all p) (all p) (decimal p.serial) (after_serial p) old old new refl (wrote_none contents (all p) old) a

module _ {W : Type 0} (contents : W → Option (List ℕ)) (p : Parts) (old mid new : Counted W) where
  pub wrote_words : Wrote contents (all p) (after_serial p) old mid → WritesAll contents mid new (behind_marks 32 p.words) → Wrote contents (all p) (after_words p) old new
  wrote_words w a = wrote_more contents (all p) (after_serial p) (behind_marks 32 p.words) (after_words p) old mid new refl w a

  pub wrote_telegrams : Wrote contents (all p) (after_words p) old mid → WritesAll contents mid new (behind_marks 32 p.telegrams) → Wrote contents (all p) (after_telegrams p) old new
  wrote_telegrams w a = wrote_more contents (all p) (after_words p) (behind_marks 32 p.telegrams) (after_telegrams p) old mid new refl w a

  pub wrote_noted : Wrote contents (all p) (after_telegrams p) old mid → WritesAll contents mid new (behind_marks 32 p.noted) → Wrote contents (all p) end old new
  wrote_noted w a = wrote_more contents (all p) (after_telegrams p) (behind_marks 32 p.noted) end old mid new refl w a
