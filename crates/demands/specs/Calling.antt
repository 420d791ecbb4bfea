-- A trace is a history: its lines' calls follow each other on one store, and its answers are the calls'; so demands 2 and 3 hold of every trace.
use Rattle.std.specs.Prelude.{◌≡◌, Bool, not, ℕ, ◌*◌, ◌≤◌, T, eqb, leb, length, replicate, Err, Some, None}
use Rattle.std.proofs.Math.Path.{refl, ap}
use Rattle.std.proofs.Common.{sym, ◌∙◌, subst, ⊎_elim, arith, le→leb}
use Rattle.std.proofs.Math.Bool.{true, false}
use mathlib.Core.List.{List, [], ◌∷◌, ◌++◌, append_assoc}
use Rattle.std.proofs.lemmas.List.{length-replicate}
use Rattle.rules.specs.Tests.{◌or◌, pick}
use Rattle.rules.specs.Limits.{most, none}
use Rattle.rules.specs.Tables.{Store, empty}
use Rattle.rules.specs.Commands.{is_look, piece_of, value_of, Verdict, accepted, refused, verdict, settled, step_to, freed_by}
use Rattle.rules.specs.Calls.{number_of, Reply, answered, saw, seen_at, done_by, accepted_by, refused_by, does, takes_list, takes_work, is_sized_store, is_lent}
use Rattle.rules.specs.Calls.{judge, cleared, accepted_call, ended, outcome_of, Promise, refused_call}
use Rattle.rules.specs.Trace.{answer_line, look_line, lines_of, says, answer_to, line_by, accepted_line, store_after, output_of, end_line, trace_at}
use Rattle.rules.specs.History.{Event, event, is_accepted, History, begun, refusing, accepting, listed, Listing}
use Rattle.rules.specs.Calling.{lent_to, came_of, call_of, calls_of, left_by, line_in, line_of, answer_of, answers_of}
use Rattle.rules.specs.declared.Refusal.{Refusal}
use Rattle.rules.specs.declared.Command.{Command}
use Rattle.laws.specs.Tests.{and_both}
use Rattle.laws.specs.Below.{T_dec}
use Rattle.laws.specs.Calls.{→sized_store, judge_through, refused_stays}
use Rattle.demands.specs.Sound.{OkStore, →sound_store}
use Rattle.demands.specs.History.{follows}
use Rattle.demands.specs.Demand3.{listed_is, demand3}
use Rattle.rules.specs.Replies.{Line}

-- the areas of a line's call have their lengths
lent_right : (s : Store) (c : Command) → 1 ≤ s.tables.base.n → OkStore s → T (is_lent (lent_to s c) (does c))
unfolding is_lent takes_work
lent_right s c l o =
    and_both (is_sized_store s) _ (→sized_store s l o.sized)
    (and_both (not (takes_list (does c)) or leb s.tables.base.n (length {A = ℕ} (pick (takes_list (does c)) (replicate s.tables.base.n 0) []))) _ (room (takes_list (does c)))
    (le→leb (8 * s.tables.base.n) (length {A = ℕ} (replicate (8 * s.tables.base.n) 0)) (omega (arith, length-replicate {A = ℕ} (8 * s.tables.base.n) 0))))
  where
    room : (b : Bool) → T (not b or leb s.tables.base.n (length {A = ℕ} (pick b (replicate s.tables.base.n 0) [])))
    room true = le→leb s.tables.base.n (length {A = ℕ} (replicate s.tables.base.n 0)) (omega (arith, length-replicate {A = ℕ} s.tables.base.n 0))
    room false = tt

module _ (s : Store) (c : Command) (least : 1 ≤ s.tables.base.n) (o : OkStore s) where
  judged_is : judge (lent_to s c) (does c) ≡ verdict s c
  judged_is = judge_through (lent_to s c) c (lent_right s c least o) (→sound_store s o.sound)

  promised : Promise (does c) (lent_to s c) (came_of s c)
  promised = record { exact = unfold came_of in refl }

  -- the call leaves the store that the line does
  came_store : (came_of s c).areas.store ≡ step_to s c
  unfolding came_of outcome_of step_to
  came_store = ap (λ (v : Verdict). (ended (lent_to s c) (does c) v).areas.store) judged_is ∙ go (verdict s c)
    where
      same : (b : Bool) → (pick b (lent_to s c) (cleared (lent_to s c) (does c))).store ≡ s
      same true = refl
      same false = unfold cleared in refl

      go : (v : Verdict) → (ended (lent_to s c) (does c) v).areas.store ≡ settled v s c
      go accepted = unfold ended accepted_call cleared settled in refl
      go (refused r) = unfold ended settled in (same (eqb (number_of r) 1))

  -- and answers what the line answers
  came-line : answer_to s (Some c) ≡ line_of (came_of s c)
  unfolding answer_to line_of line_by accepted_line ended accepted_call accepted_by cleared refused_call refused_by
  came-line = go (verdict s c) refl
    where
      reply_is : (v : Verdict) → verdict s c ≡ v → (came_of s c).reply ≡ (ended (lent_to s c) (does c) v).reply
      reply_is v e = unfold came_of outcome_of in (ap (λ (x : Verdict). (ended (lent_to s c) (does c) x).reply) (judged_is ∙ e))

      look : (b : Bool) → pick b (look_line (seen_at s.tables (piece_of c))) (answer_line 0 (value_of s.tables.base c) (freed_by s.tables.base c))
          ≡ line_in (pick b (saw (seen_at s.tables (piece_of c))) (answered (done_by s.tables.base c))) (freed_by s.tables.base c)
      look true = unfold line_in in refl
      look false = unfold line_in done_by in refl

      no : (r : Refusal) (b : Bool) (l : List ℕ) → answer_line (number_of r) none [] ≡ line_in (pick b (saw (Err r)) (answered (Err r))) l
      no r true l = unfold line_in in refl
      no r false l = unfold line_in in refl

      go : (v : Verdict) → verdict s c ≡ v → line_by s.tables c v ≡ line_in (came_of s c).reply (listed (came_of s c))
      go accepted e =
          look (is_look c)
          ∙ ap (λ (r : Reply). line_in r (freed_by s.tables.base c)) (sym (reply_is accepted e))
          ∙ ap (line_in (came_of s c).reply) (sym (listed_is (lent_to s c) (came_of s c) c promised (judged_is ∙ e)))
      go (refused r) e =
          no r (is_look c) (listed (came_of s c))
          ∙ ap (λ (x : Reply). line_in x (listed (came_of s c))) (sym (reply_is (refused r) e))

-- ---- a line, and lines

-- one more line makes the history one call longer, or leaves it
line_history : (n : ℕ) → 1 ≤ n → n ≤ most → (s : Store) (h : List Event) (l : Line) → History n h s → History n (call_of s l h) (store_after s l)
unfolding call_of store_after
line_history n least small s h (Some c) past = ⊎_elim
    (λ t. subst (History n (event (does c) (came_of s c) ∷ h)) (came_store s c first ok) (accepting (does c) (lent_to s c) (came_of s c) past kept t))
    (λ t. subst (History n (event (does c) (came_of s c) ∷ h)) (sym (stays t) ∙ came_store s c first ok) (refusing (does c) (lent_to s c) (came_of s c) past kept t))
    (T_dec (is_accepted (came_of s c).reply))
  where
    ok : OkStore s
    ok = (follows n small past).ok

    first : 1 ≤ s.tables.base.n
    first = subst (λ (k : ℕ). 1 ≤ k) (sym (follows n small past).size) least

    kept : Promise (does c) (lent_to s c) (came_of s c)
    kept = promised s c first ok

    stays : T (not (is_accepted (came_of s c).reply)) → (came_of s c).areas.store ≡ s
    stays t = unfold came_of in (refused_stays (lent_to s c) (does c) t).0
line_history n least small s h None past = past

lines_history : (n : ℕ) → 1 ≤ n → n ≤ most → (s : Store) (h : List Event) (ls : List (List ℕ)) → History n h s → History n (calls_of s ls h) (left_by s ls)
unfolding calls_of left_by
lines_history n least small s h [] past = past
lines_history n least small s h (l ∷ ls) past =
    lines_history n least small (store_after s (says l)) (call_of s (says l) h) ls (line_history n least small s h (says l) past)

-- the answers of lines from a store on are those of their calls
lines_answered : (n : ℕ) → 1 ≤ n → n ≤ most → (s : Store) (h : List Event) (ls : List (List ℕ)) → History n h s → output_of s ls ≡ answers_of s ls ++ end_line (left_by s ls).tables
unfolding output_of answers_of left_by
lines_answered n least small s h [] past = refl
lines_answered n least small s h (l ∷ ls) past =
    ap (λ (x : List ℕ). x ++ output_of (store_after s (says l)) ls) (line (says l))
    ∙ ap (λ (x : List ℕ). answer_of s (says l) ++ x) (lines_answered n least small (store_after s (says l)) (call_of s (says l) h) ls (line_history n least small s h (says l) past))
    ∙ sym (append_assoc (answer_of s (says l)) (answers_of (store_after s (says l)) ls) (end_line (left_by (store_after s (says l)) ls).tables))
  where
    line : (x : Line) → answer_to s x ≡ answer_of s x
    line (Some c) = unfold answer_of in (came-line s c (subst (λ (k : ℕ). 1 ≤ k) (sym (follows n small past).size) least) (follows n small past).ok)
    line None = unfold answer_to answer_of in refl

-- ---- the trace

module _ (n : ℕ) (least : 1 ≤ n) (small : n ≤ most) where
  -- the lines of any trace, right, refused and bad, make a history
  pub trace_history : (ls : List (List ℕ)) → History n (calls_of (empty n) ls []) (left_by (empty n) ls)
  trace_history ls = lines_history n least small (empty n) [] ls begun

  -- whose answers are the lines' answers
  pub trace-answers : (text : List ℕ) → trace_at n text ≡ answers_of (empty n) (lines_of text) ++ end_line (left_by (empty n) (lines_of text)).tables
  unfolding trace_at
  trace-answers text = lines_answered n least small (empty n) [] (lines_of text) begun

  -- Demand 2 of every trace: after any of its lines the store is sound
  pub trace_sound : (ls : List (List ℕ)) → OkStore (left_by (empty n) ls)
  trace_sound ls = (follows n small (trace_history ls)).ok

  -- Demand 3 of every trace: after lines ls, a line whose command is accepted lists exactly what no chain reaches any more
  pub trace_lists : (ls : List (List ℕ)) (c : Command) → T (is_accepted (came_of (left_by (empty n) ls) c).reply)
      → Listing (calls_of (empty n) ls []) (does c) (lent_to (left_by (empty n) ls) c) (came_of (left_by (empty n) ls) c)
  trace_lists ls c t =
      let s = left_by (empty n) ls in
      demand3 n small (calls_of (empty n) ls []) (does c) (lent_to s c) (came_of s c) (trace_history ls) (record { exact = unfold came_of in refl }) t
