-- A report is read as it is written.
use Rattle.std.proofs.Common.{◌≡◌, ℕ, zero, suc, ◌+◌, ◌/◌, ◌%◌, ◌^◌, ◌<◌, ◌≤◌, Bool, true, false, ◌==◌, List, [], ◌∷◌, ◌++◌, length, length-append, flat_map, refl, sym, ap, subst, ◌∙◌, append_assoc, append-nil, arith}
use Rattle.std.specs.Prelude.{Option, Some, None, decimal, codes, bit_and, IfSome, IsSome, ◌↔◌}
use Rattle.std.specs.List.{AllByRecursion}
use Rattle.std.proofs.Math.Nat.{mod-eq_of_lt}
use Rattle.std.proofs.lemmas.Bool.{eq-eqb, eqb-true, eqb-false, false≢true}
use Rattle.std.proofs.lemmas.Nat.{and_shr, and_mod, and_le_r}
use Rattle.hdr_bits.specs.declared.cube.Cube.{Cube}
use Rattle.hdr_bits.specs.declared.header.Header.{Header}
use Rattle.hdr_bits.specs.HeaderBits.{number, header_of}
use Rattle.hdr_bits.proofs.CubeLemmas.{same_cube}
use Rattle.hdr_bits.proofs.Numbers.{number-header_of, header_of-is_header}
use Rattle.net_types.specs.declared.network.Names.{Names}
use Rattle.net_types.specs.declared.network.Row.{Row}
use Rattle.net_types.specs.declared.network.Section.{Section}
use Rattle.report_text.specs.FieldText.{field_text, IsField, fields_text, cube_text, address_field_text, number_field_text}
use Rattle.std.specs.Prelude.{Err}
use Rattle.report_text.specs.declared.reader.ReportFail.{ReportFail}
use Rattle.report_text.specs.declared.reader.ReportFail.TheVariants.{NotReport, NoMemory}
use Rattle.report_text.specs.ReportText.{place_text, label_text, row_text, section_text, affected_text, report_text}
use Rattle.report_text.specs.Reports.{AreNames, IsRowOver, IsSectionOver, IsReportOf, ReadsReport}
use Rattle.report_text.specs.Reading.{Gives, cut_at, skip_word, is_next, next_line, skip_line, fields_at, cube_of, masks_cube, cube_at, place_at, label_at, row_at, rows_from, section_at, sections_from}
use Rattle.report_text.proofs.Options.{step}
use Rattle.report_text.proofs.Kept.{sections_kept}
use Rattle.report_text.proofs.Cuts.{has, cut_back, after}
use Rattle.report_text.proofs.Numerals.{number_plain, has_both}
use Rattle.report_text.proofs.FieldLaws.{field_step, field_plain}
use Rattle.report_text.proofs.NameNumbers.{place_back, place_plain}
use Rattle.report_text.proofs.LabelLaws.{label_back, label_plain}
use Rattle.report_text.proofs.Steps.{rows_done, sections_done}

-- ---- cubes

-- the digits of a part of two masks
digits_part : (b f s w : ℕ) → bit_and b f ≡ b → bit_and (b / 2 ^ s % 2 ^ w) (f / 2 ^ s % 2 ^ w) ≡ b / 2 ^ s % 2 ^ w
digits_part b f s w d = sym (and_mod (b / 2 ^ s) (f / 2 ^ s) w) ∙ ap (λ x. x % 2 ^ w) (sym (and_shr b f s) ∙ ap (λ x. x / 2 ^ s) d)

digits_low : (b f w : ℕ) → bit_and b f ≡ b → bit_and (b % 2 ^ w) (f % 2 ^ w) ≡ b % 2 ^ w
digits_low b f w d = sym (and_mod b f w) ∙ ap (λ x. x % 2 ^ w) d

-- the fields of two masks
record AreFields (f b : Header) : Type 0 where
  dst : IsField 0 f.dst b.dst
  src : IsField 1 f.src b.src
  proto : IsField 2 f.proto b.proto
  dport : IsField 3 f.dport b.dport
  sport : IsField 4 f.sport b.sport
  flags : IsField 5 f.flags b.flags

cube_fields : (c : Cube) → AreFields (header_of c.fixed) (header_of c.bits)
cube_fields c =
    let h = header_of-is_header c.fixed in
    record {
      dst = record { known = omega arith; below = h.dst; digits = digits_part c.bits c.fixed 80 32 c.digits };
      src = record { known = omega arith; below = h.src; digits = digits_part c.bits c.fixed 48 32 c.digits };
      proto = record { known = omega arith; below = h.proto; digits = digits_part c.bits c.fixed 40 8 c.digits };
      dport = record { known = omega arith; below = h.dport; digits = digits_part c.bits c.fixed 24 16 c.digits };
      sport = record { known = omega arith; below = h.sport; digits = digits_part c.bits c.fixed 8 16 c.digits };
      flags = record { known = omega arith; below = h.flags; digits = digits_low c.bits c.fixed 8 c.digits };
    }

twelve : (a b c d e f g h i j k l : List ℕ) → a ++ b ++ c ++ d ++ e ++ f ++ g ++ h ++ i ++ j ++ k ++ l ≡ a ++ (b ++ (c ++ (d ++ (e ++ (f ++ (g ++ (h ++ (i ++ (j ++ (k ++ l))))))))))
twelve a b c d e f g h i j k l = simp append_assoc

-- the six fields, each behind its name
fields_parts : (f b : Header) → fields_text f b ≡ codes "dst " ++ (field_text 0 f.dst b.dst ++ (codes " src " ++ (field_text 1 f.src b.src ++ (codes " proto " ++ (field_text 2 f.proto b.proto ++ (codes " dport " ++ (field_text 3 f.dport b.dport ++ (codes " sport " ++ (field_text 4 f.sport b.sport ++ (codes " flags " ++ field_text 5 f.flags b.flags))))))))))
unfolding fields_text field_text
fields_parts f b = twelve (codes "dst ") (address_field_text f.dst b.dst) (codes " src ") (address_field_text f.src b.src) (codes " proto ") (number_field_text 8 f.proto b.proto) (codes " dport ") (number_field_text 16 f.dport b.dport) (codes " sport ") (number_field_text 16 f.sport b.sport) (codes " flags ") (number_field_text 8 f.flags b.flags)

fields_back : (f b : Header) → AreFields f b → fields_at (fields_text f b) ≡ Some (f, b)
unfolding fields_at
fields_back f b h =
    let t5 = codes " flags " ++ field_text 5 f.flags b.flags in
    let t4 = codes " sport " ++ (field_text 4 f.sport b.sport ++ t5) in
    let t3 = codes " dport " ++ (field_text 3 f.dport b.dport ++ t4) in
    let t2 = codes " proto " ++ (field_text 2 f.proto b.proto ++ t3) in
    let t1 = codes " src " ++ (field_text 1 f.src b.src ++ t2) in
    ap fields_at (fields_parts f b)
    ∙ step _ _ _ _ (field_step 0 f.dst b.dst (codes "dst " ++ (field_text 0 f.dst b.dst ++ t1)) t1 h.dst refl refl)
    (step _ _ _ _ (field_step 1 f.src b.src (after t1) t2 h.src refl refl)
    (step _ _ _ _ (field_step 2 f.proto b.proto (after t2) t3 h.proto refl refl)
    (step _ _ _ _ (field_step 3 f.dport b.dport (after t3) t4 h.dport refl refl)
    (step _ _ _ _ (field_step 4 f.sport b.sport (after t4) t5 h.sport refl refl)
    (step _ _ _ _ (field_step 5 f.flags b.flags (after t5) [] h.flags tt (sym (append-nil (field_text 5 f.flags b.flags)))) refl)))))

masks_back : (c : Cube) → masks_cube c.fixed c.bits ≡ Some c
masks_back c =
    let e : c.fixed % 2 ^ 112 ≡ c.fixed = mod-eq_of_lt c.below in
    rw (eq-eqb (bit_and c.bits c.fixed) c.bits c.digits) (ap Some (same_cube (cube_of c.fixed c.bits) c e (ap (bit_and c.bits) e ∙ c.digits)))

pub cube_back : (c : Cube) → cube_at (cube_text c) ≡ Some c
unfolding cube_at cube_text
cube_back c =
    let l : c.bits < 2 ^ 112 = omega (arith, c.below, c.digits, and_le_r c.bits c.fixed) in
    step _ _ _ _ (fields_back (header_of c.fixed) (header_of c.bits) (cube_fields c))
    (ap (λ n. masks_cube n (number (header_of c.bits))) (number-header_of c.fixed c.below) ∙ ap (masks_cube c.fixed) (number-header_of c.bits l) ∙ masks_back c)

fields_plain : (f b : Header) → AreFields f b → has 10 (fields_text f b) ≡ false
fields_plain f b h =
    let p0 = field_plain 10 0 f.dst b.dst refl refl refl refl h.dst in
    let p1 = field_plain 10 1 f.src b.src refl refl refl refl h.src in
    let p2 = field_plain 10 2 f.proto b.proto refl refl refl refl h.proto in
    let p3 = field_plain 10 3 f.dport b.dport refl refl refl refl h.dport in
    let p4 = field_plain 10 4 f.sport b.sport refl refl refl refl h.sport in
    let p5 = field_plain 10 5 f.flags b.flags refl refl refl refl h.flags in
    let t5 = codes " flags " ++ field_text 5 f.flags b.flags in
    let t4 = codes " sport " ++ (field_text 4 f.sport b.sport ++ t5) in
    let t3 = codes " dport " ++ (field_text 3 f.dport b.dport ++ t4) in
    let t2 = codes " proto " ++ (field_text 2 f.proto b.proto ++ t3) in
    let t1 = codes " src " ++ (field_text 1 f.src b.src ++ t2) in
    ap (has 10) (fields_parts f b)
    ∙ has_both 10 (field_text 0 f.dst b.dst) t1 p0 (has_both 10 (field_text 1 f.src b.src) t2 p1 (has_both 10 (field_text 2 f.proto b.proto) t3 p2 (has_both 10 (field_text 3 f.dport b.dport) t4 p3 (has_both 10 (field_text 4 f.sport b.sport) t5 p4 p5))))

cube_plain : (c : Cube) → has 10 (cube_text c) ≡ false
unfolding cube_text
cube_plain c = fields_plain (header_of c.fixed) (header_of c.bits) (cube_fields c)

-- ---- rows

-- the lines of a row
lines : (a b c t : List ℕ) → a ++ codes "\n" ++ codes "old " ++ b ++ codes "\n" ++ codes "new " ++ c ++ codes "\n" ++ t ≡ a ++ (10 ∷ ((codes "old " ++ b) ++ (10 ∷ ((codes "new " ++ c) ++ (10 ∷ t)))))
lines a b c t = simp append_assoc

row_from : (texts : List (List ℕ)) (bytes : List ℕ) (row : Row) (rest line old new : List ℕ) → next_line bytes ≡ line → next_line (skip_line bytes) ≡ old → next_line (skip_line (skip_line bytes)) ≡ new → skip_line (skip_line (skip_line bytes)) ≡ rest
    → cube_at line ≡ Some row.cube → label_at texts old ≡ Some row.old → label_at texts new ≡ Some row.new → row_at texts bytes ≡ Some (row, rest)
unfolding row_at
row_from texts bytes row rest line old new e1 e2 e3 e4 c o n =
    step (cube_at (next_line bytes)) row.cube _ _ (ap cube_at e1 ∙ c)
    (step (label_at texts (next_line (skip_line bytes))) row.old _ _ (ap (label_at texts) e2 ∙ o)
    (step (label_at texts (next_line (skip_line (skip_line bytes)))) row.new _ _ (ap (label_at texts) e3 ∙ n) (ap (λ r. Some (row, r)) e4)))

row_back : (names : Names) (row : Row) (t : List ℕ) → AreNames names.texts → IsRowOver names.texts row → row_at names.texts (row_text names row ++ t) ≡ Some (row, t)
unfolding row_text
row_back names row t a h =
    let line = cube_text row.cube in
    let old = codes "old " ++ label_text names row.old in
    let new = codes "new " ++ label_text names row.new in
    let bytes = line ++ (10 ∷ (old ++ (10 ∷ (new ++ (10 ∷ t))))) in
    let c : cut_at 10 bytes ≡ (line, old ++ (10 ∷ (new ++ (10 ∷ t)))) = cut_back 10 line (10 ∷ (old ++ (10 ∷ (new ++ (10 ∷ t))))) (cube_plain row.cube) refl in
    let o : cut_at 10 (old ++ (10 ∷ (new ++ (10 ∷ t)))) ≡ (old, new ++ (10 ∷ t)) = cut_back 10 old (10 ∷ (new ++ (10 ∷ t))) (label_plain names row.old a h.0.1) refl in
    let n : cut_at 10 (new ++ (10 ∷ t)) ≡ (new, t) = cut_back 10 new (10 ∷ t) (label_plain names row.new a h.1.1) refl in
    let s1 : skip_line bytes ≡ old ++ (10 ∷ (new ++ (10 ∷ t))) = ap (λ q. q.1) c in
    let s2 : skip_line (skip_line bytes) ≡ new ++ (10 ∷ t) = ap skip_line s1 ∙ ap (λ q. q.1) o in
    ap (row_at names.texts) (lines line (label_text names row.old) (label_text names row.new) t)
    ∙ row_from names.texts bytes row t line old new (ap (λ q. q.0) c) (ap next_line s1 ∙ ap (λ q. q.0) o) (ap next_line s2 ∙ ap (λ q. q.0) n) (ap skip_line s2 ∙ ap (λ q. q.1) n)
    (cube_back row.cube) (label_back names row.old old a h.0 refl (omega arith)) (label_back names row.new new a h.1 refl (omega arith))

row_next : (names : Names) (row : Row) (t : List ℕ) → is_next (codes "dst") (row_text names row ++ t) ≡ true
unfolding row_text cube_text fields_text
row_next names row t = refl

next_row : (texts : List (List ℕ)) (n : ℕ) (found : List Row) (bytes : List ℕ) (row : Row) (rest : List ℕ) → is_next (codes "dst") bytes ≡ true → row_at texts bytes ≡ Some (row, rest) → rows_from texts (suc n) found bytes ≡ rows_from texts n (found ++ row ∷ []) rest
unfolding rows_from
next_row texts n found bytes row rest h e = rw (h, e) refl

rows_back : (names : Names) (rows found : List Row) (n : ℕ) (t : List ℕ) → AreNames names.texts → AllByRecursion (IsRowOver names.texts) rows → length rows ≤ n → is_next (codes "dst") t ≡ false
    → rows_from names.texts n found (flat_map (row_text names) rows ++ t) ≡ Some (found ++ rows, t)
rows_back names [] found n t a h l e = rows_done names.texts n found t e ∙ ap (λ x. Some (x, t)) (sym (append-nil found))
rows_back names (row ∷ rows) found zero t a h l e = absurd (omega (arith, l))
rows_back names (row ∷ rows) found (suc n) t a h l e =
    let rest = flat_map (row_text names) rows ++ t in
    ap (rows_from names.texts (suc n) found) (append_assoc (row_text names row) (flat_map (row_text names) rows) t)
    ∙ next_row names.texts n found (row_text names row ++ rest) row rest (row_next names row rest) (row_back names row rest a h.0)
    ∙ rows_back names rows (found ++ row ∷ []) n t a h.1 (omega (arith, l)) e
    ∙ ap (λ x. Some (x, t)) (append_assoc found (row ∷ []) rows)

row_size : (names : Names) (row : Row) → 1 ≤ length (row_text names row)
unfolding row_text cube_text fields_text
row_size names row = omega arith

rows_size : (names : Names) (rows : List Row) → length rows ≤ length (flat_map (row_text names) rows)
rows_size names [] = omega arith
rows_size names (row ∷ rows) = rw (length-append (row_text names row) (flat_map (row_text names) rows)) (omega (arith, row_size names row, rows_size names rows))

-- ---- sections

-- the line of a section, up to the line end
abbrev head_line : Names → Section → List ℕ
head_line names s = codes "ingress " ++ (place_text names s.place ++ (codes " rows " ++ decimal (length s.rows)))

section_parts : (names : Names) (s : Section) (t : List ℕ) → section_text names s ++ t ≡ head_line names s ++ (10 ∷ (flat_map (row_text names) s.rows ++ t))
unfolding section_text
section_parts names s t =
    let p = place_text names s.place in
    let n = decimal (length s.rows) in
    let rows = flat_map (row_text names) s.rows in
    parts p n rows
  where
    parts : (p n rows : List ℕ) → codes "ingress " ++ p ++ codes " rows " ++ n ++ codes "\n" ++ rows ++ t ≡ (codes "ingress " ++ (p ++ (codes " rows " ++ n))) ++ (10 ∷ (rows ++ t))
    parts p n rows = simp append_assoc

section_size : (names : Names) (s : Section) → 1 + length s.rows ≤ length (section_text names s)
section_size names s =
    let e : length (section_text names s) ≡ length (head_line names s ++ (10 ∷ (flat_map (row_text names) s.rows ++ []))) = ap (length {A = _}) (sym (append-nil (section_text names s)) ∙ section_parts names s []) in
    omega (arith, e, length-append (head_line names s) (10 ∷ (flat_map (row_text names) s.rows ++ [])), length-append (flat_map (row_text names) s.rows) [], rows_size names s.rows)

section_from : (texts : List (List ℕ)) (bytes : List ℕ) (s : Section) (t line rest more : List ℕ) → next_line bytes ≡ line → skip_line bytes ≡ rest → place_at texts (skip_word line) ≡ Some (s.place, more) → rows_from texts (length bytes) [] rest ≡ Some (s.rows, t)
    → section_at texts bytes ≡ Some (s, t)
unfolding section_at
section_from texts bytes s t line rest more e1 e2 p r =
    step (place_at texts (skip_word (next_line bytes))) (s.place, more) _ _ (ap (λ l. place_at texts (skip_word l)) e1 ∙ p)
    (step (rows_from texts (length bytes) [] (skip_line bytes)) (s.rows, t) _ _ (ap (rows_from texts (length bytes) []) e2 ∙ r) refl)

section_back : (names : Names) (s : Section) (t : List ℕ) → AreNames names.texts → IsSectionOver names.texts s → length s.rows < 2 ^ 64 → is_next (codes "dst") t ≡ false → section_at names.texts (section_text names s ++ t) ≡ Some (s, t)
section_back names s t a h few e =
    let rows = flat_map (row_text names) s.rows in
    let tail = codes " rows " ++ decimal (length s.rows) in
    let line = head_line names s in
    let bytes = line ++ (10 ∷ (rows ++ t)) in
    let plain : has 10 line ≡ false = has_both 10 (place_text names s.place) tail (place_plain names s.place a h.0) (number_plain 10 (length s.rows) refl few) in
    let cut : cut_at 10 bytes ≡ (line, rows ++ t) = cut_back 10 line (10 ∷ (rows ++ t)) plain refl in
    let size : length s.rows ≤ length bytes = omega (arith, rows_size names s.rows, length-append line (10 ∷ (rows ++ t)), length-append rows t) in
    ap (section_at names.texts) (section_parts names s t)
    ∙ section_from names.texts bytes s t line (rows ++ t) (after tail) (ap (λ q. q.0) cut) (ap (λ q. q.1) cut) (place_back names s.place tail a h.0 refl)
    (rows_back names s.rows [] (length bytes) t a h.1 size e)

section_next : (names : Names) (s : Section) (t : List ℕ) → (is_next (codes "ingress") (section_text names s ++ t) ≡ true) × (is_next (codes "dst") (section_text names s ++ t) ≡ false)
unfolding section_text
section_next names s t = (refl, refl)

next_section : (texts : List (List ℕ)) (n : ℕ) (found : List Section) (bytes : List ℕ) (s : Section) (rest : List ℕ) → is_next (codes "ingress") bytes ≡ true → section_at texts bytes ≡ Some (s, rest) → sections_from texts (suc n) found bytes ≡ sections_from texts n (found ++ s ∷ []) rest
unfolding sections_from
next_section texts n found bytes s rest h e = rw (h, e) refl

-- sections, and behind them a text that begins with another word
sections_next : (names : Names) (ss : List Section) (t : List ℕ) → is_next (codes "dst") t ≡ false → is_next (codes "dst") (flat_map (section_text names) ss ++ t) ≡ false
sections_next names [] t e = e
sections_next names (s ∷ ss) t e = ap (is_next (codes "dst")) (append_assoc (section_text names s) (flat_map (section_text names) ss) t) ∙ (section_next names s (flat_map (section_text names) ss ++ t)).1

sections_back : (names : Names) (ss found : List Section) (n : ℕ) (t : List ℕ) → AreNames names.texts → AllByRecursion (IsSectionOver names.texts) ss → length ss ≤ n → length (flat_map (section_text names) ss ++ t) < 2 ^ 64 → is_next (codes "dst") t ≡ false → is_next (codes "ingress") t ≡ false
    → sections_from names.texts n found (flat_map (section_text names) ss ++ t) ≡ Some (found ++ ss)
sections_back names [] found n t a h l few e d = sections_done names.texts n found t d ∙ ap Some (sym (append-nil found))
sections_back names (s ∷ ss) found zero t a h l few e d = absurd (omega (arith, l))
sections_back names (s ∷ ss) found (suc n) t a h l few e d =
    let rest = flat_map (section_text names) ss ++ t in
    let regroup = append_assoc (section_text names s) (flat_map (section_text names) ss) t in
    let size : length (section_text names s) + length rest ≡ length (flat_map (section_text names) (s ∷ ss) ++ t) = sym (ap (length {A = _}) regroup ∙ length-append (section_text names s) rest) in
    let rows : length s.rows < 2 ^ 64 = omega (arith, size, few, section_size names s) in
    ap (sections_from names.texts (suc n) found) regroup
    ∙ next_section names.texts n found (section_text names s ++ rest) s rest (section_next names s rest).0 (section_back names s rest a h.0 rows (sections_next names ss t e))
    ∙ sections_back names ss (found ++ s ∷ []) n t a h.1 (omega (arith, l)) (omega (arith, size, few)) e d
    ∙ ap Some (append_assoc found (s ∷ []) ss)

sections_size : (names : Names) (ss : List Section) → length ss ≤ length (flat_map (section_text names) ss)
sections_size names [] = omega arith
sections_size names (s ∷ ss) = rw (length-append (section_text names s) (flat_map (section_text names) ss)) (omega (arith, section_size names s, sections_size names ss))

affected_next : (ss : List Section) → (is_next (codes "dst") (affected_text ss) ≡ false) × (is_next (codes "ingress") (affected_text ss) ≡ false)
unfolding affected_text
affected_next ss = (refl, refl)

-- what a report's sections are read as
pub report_back : (names : Names) (ss : List Section) (bytes : List ℕ) → AreNames names.texts → IsReportOf names ss bytes → length bytes < 2 ^ 64 → sections_from names.texts (length bytes) [] bytes ≡ Some ss
unfolding report_text
report_back names ss bytes a h few =
    let e : flat_map (section_text names) ss ++ affected_text ss ≡ bytes = h.text in
    let size : length (flat_map (section_text names) ss) + length (affected_text ss) ≡ length bytes = sym (length-append (flat_map (section_text names) ss) (affected_text ss)) ∙ ap (length {A = _}) e in
    ap (sections_from names.texts (length bytes) []) (sym e)
    ∙ sections_back names ss [] (length bytes) (affected_text ss) a h.over (omega (arith, size, sections_size names ss)) (rw e few) (affected_next ss).0 (affected_next ss).1

-- ---- what the reading and the printing say together

some_one : (ss ts : List Section) → Some ss ≡ Some ts → ss ≡ ts
some_one ss ts e = cc

none_some : (ss : List Section) → None ≡ Some ss → ⊥
none_some ss e = cc

pub accepted : (names : Names) (ss : List Section) (bytes : List ℕ) → sections_from names.texts (length bytes) [] bytes ≡ Some ss → report_text names ss ≡ bytes → IsReportOf names ss bytes
accepted names ss bytes e t = record { over = subst (λ o. IfSome o (AllByRecursion (IsSectionOver names.texts))) e (sections_kept names.texts (length bytes) [] bytes tt); text = t }

pub unread : (names : Names) (bytes : List ℕ) → AreNames names.texts → length bytes < 2 ^ 64 → sections_from names.texts (length bytes) [] bytes ≡ None → (ts : List Section) → IsReportOf names ts bytes → ⊥
unread names bytes a few e ts h = none_some ts (sym e ∙ report_back names ts bytes a h few)

pub differs : (names : Names) (ss : List Section) (bytes : List ℕ) → AreNames names.texts → length bytes < 2 ^ 64 → sections_from names.texts (length bytes) [] bytes ≡ Some ss → (report_text names ss ≡ bytes → ⊥) → (ts : List Section) → IsReportOf names ts bytes → ⊥
differs names ss bytes a few e other ts h =
    let same : ss ≡ ts = some_one ss ts (sym e ∙ report_back names ts bytes a h few) in
    other (ap (report_text names) same ∙ h.text)

pub failed : {X : Type 0} (view : X → List Section) (names : Names) (bytes : List ℕ) (e : ReportFail) → AreNames names.texts → length bytes < 2 ^ 64 → Gives view (Err e) (sections_from names.texts (length bytes) [] bytes) → ReadsReport view names bytes (Err e)
failed view names bytes NotReport a few g = unread names bytes a few g
failed view names bytes NoMemory a few g = tt

-- ---- cubes that were made

pub made : (n m : ℕ) (o : Option Cube) → n < 2 ^ 112 → IsSome o ↔ ((n < 2 ^ 112) × (bit_and m n ≡ m)) → IfSome o (λ c. (c.fixed ≡ n) × (c.bits ≡ m)) → o ≡ masks_cube n m
made n m o small v h = go (bit_and m n == m) refl o v h
  where
    go : (t : Bool) → (bit_and m n == m) ≡ t → (o : Option Cube) → IsSome o ↔ ((n < 2 ^ 112) × (bit_and m n ≡ m)) → IfSome o (λ c. (c.fixed ≡ n) × (c.bits ≡ m)) → o ≡ masks_cube n m
    go true e None v h = absurd (false≢true (v.1 (small, eqb-true (bit_and m n) m e)))
    go true e (Some c) v h =
        let f : n % 2 ^ 112 ≡ n = mod-eq_of_lt small in
        let d : bit_and m n ≡ m = eqb-true (bit_and m n) m e in
        rw e (ap Some (same_cube c (cube_of n m) (h.0 ∙ sym f) (h.1 ∙ sym (ap (bit_and m) f ∙ d))))
    go false e None v h = rw e refl
    go false e (Some c) v h = absurd (eqb-false (bit_and m n) m e (v.0 refl).1)
