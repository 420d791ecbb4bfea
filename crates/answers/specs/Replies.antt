-- A command's reply and the list that it leaves give the line that the trace answers.
use Rattle.std.specs.Prelude.{◌≡◌, refl, List, [], ℕ, length, drop, Some}
use Rattle.std.proofs.Math.Seq.{take-append_seam}
use Rattle.rules.specs.Tables.{Base, Tables, Store, is_draft, is_frozen}
use Rattle.rules.specs.Commands.{Verdict, accepted, refused, verdict, freed_by, value_of}
use Rattle.rules.specs.Calls.{Reply, answered, saw, checked, refused_by, done_by, accepted_by, listing, effected, effect_of}
use Rattle.rules.specs.Trace.{answer_line, look_line, accepted_line, line_by, answer_to, how_many, leads, end_line}
use Rattle.rules.specs.declared.Command.{Command}
use Rattle.rules.specs.declared.Command.TheVariants.{New, Set, Freeze, Acquire, Release, Bin, Look}
use Rattle.rules.specs.declared.Refusal.{Refusal}
use Rattle.answers.specs.Wrote.{line_of, closing_line}

-- the line of a reply; no command replies as check does
abbrev pub reply_line : Reply → List ℕ → List ℕ
reply_line (answered a) list = line_of a list
reply_line (saw s) list = look_line s
reply_line (checked c) list = []

-- the freed numbers are the first of the list
done_listed : (b : Base) (c : Command) (l : List ℕ) → line_of (done_by b c) (listing (freed_by b c) l) ≡ answer_line 0 (value_of b c) (freed_by b c)
unfolding done_by listing
done_listed b c l = rw (take-append_seam (freed_by b c) (drop (length (freed_by b c)) l))

accepted_line_lem : (t : Tables) (l : List ℕ) (c : Command) → reply_line (accepted_by t c) (listing (freed_by t.base c) l) ≡ accepted_line t c
unfolding accepted_by accepted_line
accepted_line_lem t l New = done_listed t.base New l
accepted_line_lem t l (Set p k u) = done_listed t.base (Set p k u) l
accepted_line_lem t l (Freeze p i) = done_listed t.base (Freeze p i) l
accepted_line_lem t l (Acquire p i) = done_listed t.base (Acquire p i) l
accepted_line_lem t l (Release p i) = done_listed t.base (Release p i) l
accepted_line_lem t l (Bin p) = done_listed t.base (Bin p) l
accepted_line_lem t l (Look p) = refl

refused_reply : (r : Refusal) (t : Tables) (l : List ℕ) (c : Command) → reply_line (refused_by r c) l ≡ line_by t c (refused r)
unfolding refused_by line_by
refused_reply r t l New = refl
refused_reply r t l (Set p k u) = refl
refused_reply r t l (Freeze p i) = refl
refused_reply r t l (Acquire p i) = refl
refused_reply r t l (Release p i) = refl
refused_reply r t l (Bin p) = refl
refused_reply r t l (Look p) = refl

by_verdict : (s : Store) (l : List ℕ) (c : Command) (v : Verdict)
    → reply_line (effected s l c v).reply (effected s l c v).list ≡ line_by s.tables c v
unfolding effected line_by
by_verdict s l c accepted = accepted_line_lem s.tables l c
by_verdict s l c (refused r) = refused_reply r s.tables l c

-- what a command's line answers, from what the command itself replies and leaves in the list
pub reply_line_lem : (s : Store) (l : List ℕ) (c : Command)
    → reply_line (effect_of s l c).reply (effect_of s l c).list ≡ answer_to s (Some c)
unfolding effect_of answer_to
reply_line_lem s l c = by_verdict s l c (verdict s c)

-- the last line, from the three numbers
pub end_line_lem : (t : Tables)
    → end_line t
    ≡ closing_line (how_many (is_draft t.base) t.base.n) (how_many (is_frozen t.base) t.base.n) (how_many (leads t) t.base.n)
unfolding end_line
end_line_lem t = refl
