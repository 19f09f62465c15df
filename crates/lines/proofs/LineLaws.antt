-- The lines, field by field.
-- Assumes nothing.
--
--   part, field_at                       a field as digits; field i
--   Written, written_..                  the first i fields are written: the loop's invariant, a turn, and that the next field has its place
--   answer_line_lem, refusal_line_lem    the fields of a frame, written one behind another, and a line feed are its line
--   answer_unique, refusal_unique        two lists that meet a statement are equal
use Rattle.std.proofs.Common.{◌≡◌, refl, sym, ◌∙◌, List, [], ◌∷◌, ◌++◌, length, get_or, take, drop, set, ℕ, suc, ◌+◌, ◌<◌, ◌≤◌, arith, length-append}
use Rattle.std.proofs.Math.Seq.{drop-cons, set_at, append_snoc}
use Rattle.std.proofs.lemmas.List.{flat_map_more, take_more}
use Rattle.std.proofs.lemmas.List.Folds.{length-flat_map-take}
use Rattle.std.proofs.lemmas.List.Sums.{sum_by-cons}
use Rattle.std.specs.List.{flat_map, sum_by}
use Rattle.digits.specs.Spell.{spell}
use Rattle.digits.proofs.SpellLaws.{part_next, spell_length}
use Rattle.frames.specs.declared.Answer.{Answer}
use Rattle.frames.specs.declared.Refusal.{Refusal}
use Rattle.frames.specs.Kinds.{answer_kind, answer_digits, refusal_kind, refusal_digits}
use Rattle.lines.specs.declared.Field.{Field}
use Rattle.lines.specs.Lines.{answer_line, refusal_line}

-- a field, spelt
abbrev part : Field → List ℕ
part f = spell f.0 f.1

parts_length : (fs : List Field) → length (flat_map part fs) ≡ sum_by (λ f. f.0) fs
parts_length [] = refl
parts_length (f ∷ fs) = rw (sum_by-cons (λ f. f.0) f fs, length-append (part f) (flat_map part fs), spell_length f.0 f.1, parts_length fs) refl

-- field i, and one with no digits behind the last
abbrev no_digits : Field
no_digits = record { 0 = 0; 1 = 0 }

abbrev field_at : List Field → ℕ → Field
field_at fs i = get_or fs i no_digits

-- the first i fields are written, up to a place
pub record Written (fs : List Field) (d l : List ℕ) (at i : ℕ) : Type 0 where
  pub place : length (flat_map part (take i fs)) ≡ at
  pub done : l ≡ flat_map part (take i fs) ++ drop at d

module _ (fs : List Field) (d l : List ℕ) (at i : ℕ) (w : Written fs d l at i) (h : i < length fs) where
  pub written_room : at + (field_at fs i).0 ≤ sum_by (λ f. f.0) fs
  written_room = omega (arith, parts_length fs, length-flat_map-take part fs i no_digits h, spell_length (field_at fs i).0 (field_at fs i).1, w.place)

  pub written_more : (l' : List ℕ) → l' ≡ take at l ++ part (field_at fs i) ++ drop (at + (field_at fs i).0) l → Written fs d l' (at + (field_at fs i).0) (i + 1)
  written_more l' q =
      let f = field_at fs i in
      let m : flat_map part (take (i + 1) fs) ≡ flat_map part (take i fs) ++ part f = rw (take_more fs i no_digits h) (sym (flat_map_more part [] (take i fs) f)) in
      record {
        place = rw m (omega (arith, length-append (flat_map part (take i fs)) (part f), spell_length f.0 f.1, w.place));
        done = rw m (part_next d (flat_map part (take i fs)) (part f) l l' at f.0 w.place w.done q);
      }

-- a line feed behind what is written
feed : (pre d : List ℕ) (a : ℕ) → length pre ≡ a → a < length d → set (pre ++ drop a d) a 10 ≡ pre ++ (10 ∷ []) ++ drop (a + 1) d
feed pre d a e o =
    let s : a + 1 ≡ suc a = omega arith in
    rw (s, drop-cons d a 0 o) (set_at pre (get_or d a 0) (drop (suc a) d) 10 a e ∙ sym (append_snoc pre 10 (drop (suc a) d)))

abbrev answer_fields : Answer → List Field
answer_fields a = record { 0 = 2; 1 = answer_kind }
    ∷ record { 0 = 2; 1 = a.outcome }
    ∷ record { 0 = 16; 1 = a.price }
    ∷ record { 0 = 8; 1 = a.rounds }
    ∷ record { 0 = 16; 1 = a.victims }
    ∷ []

abbrev refusal_fields : Refusal → List Field
refusal_fields r = record { 0 = 2; 1 = refusal_kind } ∷ record { 0 = 2; 1 = r.number } ∷ record { 0 = 4; 1 = r.line } ∷ []

pub answer_line_lem : (a : Answer) (d : List ℕ) → answer_digits < length d → let spelt = flat_map part (answer_fields a) in set (spelt ++ drop (length spelt) d) answer_digits 10 ≡ answer_line a ++ drop (answer_digits + 1) d
unfolding answer_line spell
answer_line_lem a d o = feed (flat_map part (answer_fields a)) d answer_digits refl o

pub refusal_line_lem : (r : Refusal) (d : List ℕ) → refusal_digits < length d → let spelt = flat_map part (refusal_fields r) in set (spelt ++ drop (length spelt) d) refusal_digits 10 ≡ refusal_line r ++ drop (refusal_digits + 1) d
unfolding refusal_line spell
refusal_line_lem r d o = feed (flat_map part (refusal_fields r)) d refusal_digits refl o

pub answer_unique : (a : Answer) (out l m : List ℕ) → l ≡ answer_line a ++ drop (answer_digits + 1) out → m ≡ answer_line a ++ drop (answer_digits + 1) out → l ≡ m
answer_unique a out l m p q = p ∙ sym q

pub refusal_unique : (r : Refusal) (out l m : List ℕ) → l ≡ refusal_line r ++ drop (refusal_digits + 1) out → m ≡ refusal_line r ++ drop (refusal_digits + 1) out → l ≡ m
refusal_unique r out l m p q = p ∙ sym q
