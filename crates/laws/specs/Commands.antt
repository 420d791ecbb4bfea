-- Demand 2, over the tables: each accepted command leaves sound tables sound.
use Rattle.std.specs.Prelude.{◌≡◌, ◌⊎◌, ◌↔◌, Bool, not, [], ℕ, ◌+◌, ◌*◌, ◌-◌, ◌≤◌, ◌<◌, T, eqb, ltb, set}
use Rattle.std.proofs.Math.Path.{refl, subst}
use Rattle.std.proofs.Common.{sym, ◌∙◌, inr, arith, eqb→eq, ltb→lt}
use Rattle.std.proofs.Math.Logic.{inl, ⊎_elim}
use Rattle.std.proofs.Math.Bool.{true, false}
use Rattle.std.proofs.Math.Dec.{T_not, not_T, leb, nleb→lt}
use Rattle.std.proofs.Math.ListN.{length-set}
use Rattle.rules.specs.Tests.{◌or◌, ◌&◌, pick}
use Rattle.laws.specs.Tests.{or_cases, and_both, and_left, and_right}
use Rattle.rules.specs.Limits.{none}
use Rattle.rules.specs.Below.{list}
use Rattle.laws.specs.Below.{T_dec, pick_true, pick-false, length-table, Lowest, lowest_is, among_nil, among_list}
use Rattle.rules.specs.Lists.{Among}
use Rattle.rules.specs.Tables.{Base, Tables, state, is_free, is_frozen, holds_of, is_kept, finish, leader_entry, count_entry}
use Rattle.rules.specs.Words.{Frozen, Live, Kept, Sound, SizedBase, Sized}
use Rattle.laws.specs.Words.{is_frozen→, →is_frozen, is_kept→, →is_kept}
use Rattle.laws.specs.Sound.{Good, sound→entries, finish_sound}
use Rattle.laws.specs.Settle.{settled_good}
use Rattle.rules.specs.Commands.{at_limit, none_free, table_refusals, with_states, with_links, with_holds, one_more, one_less, free_all}
use Rattle.rules.specs.Commands.{gone, gone_list, first_free, freeze_first, edit, settles, freed_by, after, next_tables}
use Rattle.rules.specs.declared.Refusal.TheVariants.{Number, Place, Target, Free, FreeTarget, State, Limit, Linked, Full}
use Rattle.rules.specs.declared.Command.{Command}
use Rattle.rules.specs.declared.Command.TheVariants.{New, Set, Freeze, Acquire, Release, Bin, Look}
use Rattle.laws.specs.Passes.{applies, Passes, not_by, Wells, frozen_of, live, live_draft, live_frozen, not-not, some_not}
use Rattle.laws.specs.Edits.New.{new_good, new_base}
use Rattle.laws.specs.Edits.Set.{set-well, set_base}
use Rattle.laws.specs.Edits.Hold.{hold_good, hold_well, hold_base}
use Rattle.laws.specs.Edits.Freeze.{fr, fr_good}
use Rattle.laws.specs.Edits.Bin.{bin_well}

-- ---- each command

-- new has a free number to give
pub first_free_lem : (b : Base) → Passes b New → Lowest (is_free b) b.n (first_free b)
unfolding none_free table_refusals applies first_free
first_free_lem b c = let w = some_not (is_free b) b.n (not_by c Full) in lowest_is (is_free b) b.n w.0 w.1 w.2

pub first_free_state : (b : Base) → Passes b New → state b (first_free b) ≡ 0
unfolding is_free
first_free_state b c = eqb→eq (state b (first_free b)) 0 (first_free_lem b c).is

module _ (b : Base) (z : SizedBase b) (g : Good b) where
  pub below_of : (p : ℕ) → T (not (not (ltb p b.n))) → p < b.n
  below_of p t = ltb→lt p b.n (not-not (ltb p b.n) t)

  settle : (e : Base) → e.n ≡ b.n → Wells e → Good (free_all e (gone e))
  settle e m ws = settled_good e (subst (λ (x : ℕ). x ≤ 1024) (sym m) z.most) ws

  more_good : (p : ℕ) → p < b.n → state b p ≡ 2 → T (not (is_frozen b p & leb 1000 (holds_of b p))) → Good (one_more b p)
  unfolding one_more hold_base
  more_good p h f l = hold_good b z g.wells p (holds_of b p + 1) h f (let a = few in omega arith) g (omega arith)
    where
      few : holds_of b p < 1000
      few =
          nleb→lt 1000 (holds_of b p) (not_T (leb 1000 (holds_of b p)) (λ t.
          T_not (is_frozen b p & leb 1000 (holds_of b p)) l (and_both (is_frozen b p) (leb 1000 (holds_of b p)) (→is_frozen b p f) t)))

  freeze_good : (p : ℕ) → p < b.n → T (not (is_free b p)) → T (not (is_frozen b p & leb 1000 (holds_of b p))) → Good (pick (is_frozen b p) (one_more b p) (freeze_first b p))
  unfolding fr
  freeze_good p h f l =
      ⊎_elim
      (λ x. subst Good (sym (pick_true (is_frozen b p) (one_more b p) (freeze_first b p) x)) (more_good p h (is_frozen→ b p h x).is l))
      (λ x. subst Good (sym (pick-false (is_frozen b p) (one_more b p) (freeze_first b p) x)) (fr_good b z g p h (live_draft b p (g.wells p h) f x)))
      (T_dec (is_frozen b p))

  pub edit-n : (c : Command) → (edit b c).n ≡ b.n
  unfolding edit with_states with_links with_holds free_all one_more one_less freeze_first
  edit-n New = refl
  edit-n (Set p k t) = refl
  edit-n (Freeze p seat) = go (is_frozen b p)
    where
      go : (x : Bool) → (pick x (one_more b p) (freeze_first b p)).n ≡ b.n
      go true = refl
      go false = refl
  edit-n (Acquire p seat) = refl
  edit-n (Release p seat) = refl
  edit-n (Bin p) = refl
  edit-n (Look p) = refl

  pub edit-well : (c : Command) → Passes b c → Wells (edit b c)
  unfolding edit table_refusals applies at_limit new_base set_base hold_base one_less
  edit-well New c = (new_good b z g (first_free b) (first_free_lem b c).below (first_free_state b c)).wells
  edit-well (Set p k t) c =
      set-well b z g.wells p k t h i (live_draft b p (g.wells p h) (not_by c Free) (not_by c State))
      (⊎_elim (λ e. inl (eqb→eq t none e)) (λ ne. target ne (ltb→lt t b.n (or_skip ne))) (T_dec (eqb t none)))
    where
      h : p < b.n
      h = below_of p (not_by c Number)

      i : k < 4
      i = ltb→lt k 4 (not-not (ltb k 4) (not_by c Place))

      or_skip : T (not (eqb t none)) → T (ltb t b.n)
      or_skip ne =
          ⊎_elim (λ e. absurd (T_not (eqb t none) ne e)) (λ x. x) (or_cases (eqb t none) (ltb t b.n)
          (not-not (eqb t none or ltb t b.n) (not_by c Target)))

      target : T (not (eqb t none)) → t < b.n → (t ≡ none) ⊎ Live b t
      target ne m =
          inr (live b t m (g.wells t m) (not_T (is_free b t) (λ f. T_not (not (eqb t none) & is_free b t)
          (not_by c FreeTarget) (and_both (not (eqb t none)) (is_free b t) ne f))))
  edit-well (Freeze p seat) c = (freeze_good p (below_of p (not_by c Number)) (not_by c Free) (not_by c Limit)).wells
  edit-well (Acquire p seat) c = (more_good p (below_of p (not_by c Number)) (live_frozen b p (g.wells p (below_of p (not_by c Number))) (not_by c Free) (not_by c State)) (not_by c Limit)).wells
  edit-well (Release p seat) c =
      let h = below_of p (not_by c Number) in
      let f = live_frozen b p (g.wells p h) (not_by c Free) (not_by c State) in
      let fw = frozen_of b p (g.wells p h) f in
      hold_well b z g.wells p (holds_of b p - 1) h f (let a = fw.holds in omega arith)
  edit-well (Bin p) c = bin_well b g.wells p (not_by c Linked)
  edit-well (Look p) c = g.wells

  -- Demand 2, over states, links and holds
  pub after_good : (c : Command) → Passes b c → Good (after b c)
  unfolding after settles edit table_refusals applies at_limit new_base
  after_good New c = new_good b z g (first_free b) (first_free_lem b c).below (first_free_state b c)
  after_good (Set p k t) c = settle (edit b (Set p k t)) (edit-n (Set p k t)) (edit-well (Set p k t) c)
  after_good (Freeze p seat) c = freeze_good p (below_of p (not_by c Number)) (not_by c Free) (not_by c Limit)
  after_good (Acquire p seat) c = more_good p (below_of p (not_by c Number)) (live_frozen b p (g.wells p (below_of p (not_by c Number))) (not_by c Free) (not_by c State)) (not_by c Limit)
  after_good (Release p seat) c = settle (edit b (Release p seat)) (edit-n (Release p seat)) (edit-well (Release p seat) c)
  after_good (Bin p) c = settle (edit b (Bin p)) (edit-n (Bin p)) (edit-well (Bin p) c)
  after_good (Look p) c = g

-- ---- sizes

module _ (b : Base) (z : SizedBase b) where
  free_sized : (f : ℕ → Bool) → SizedBase (free_all b f)
  unfolding free_all
  free_sized f = record { states = length-table _ b.n; links = length-table _ (4 * b.n); holds = length-table _ b.n; most = z.most }

  hold_sized : (p v : ℕ) → SizedBase (with_holds b (set b.holds p v))
  unfolding with_holds
  hold_sized p v = record { states = z.states; links = z.links; holds = length-set b.holds p v ∙ z.holds; most = z.most }

  freeze_sized : (p : ℕ) (x : Bool) → SizedBase (pick x (one_more b p) (freeze_first b p))
  unfolding freeze_first one_more
  freeze_sized p true = hold_sized p (holds_of b p + 1)
  freeze_sized p false = record { states = length-table _ b.n; links = z.links; holds = length-set b.holds p 1 ∙ z.holds; most = z.most }

  pub edit_sized : (c : Command) → SizedBase (edit b c)
  unfolding edit with_states with_links one_more one_less
  edit_sized New = record { states = length-set b.states (first_free b) 1 ∙ z.states; links = z.links; holds = z.holds; most = z.most }
  edit_sized (Set p k t) = record { states = z.states; links = length-set b.links (4 * p + k) t ∙ z.links; holds = z.holds; most = z.most }
  edit_sized (Freeze p seat) = freeze_sized p (is_frozen b p)
  edit_sized (Acquire p seat) = hold_sized p (holds_of b p + 1)
  edit_sized (Release p seat) = hold_sized p (holds_of b p - 1)
  edit_sized (Bin p) = free_sized (eqb p)
  edit_sized (Look p) = z

pub after_sized : (b : Base) → SizedBase b → (c : Command) → SizedBase (after b c)
unfolding after
after_sized b z c = go (settles c)
  where
    go : (x : Bool) → SizedBase (pick x (free_all (edit b c) (gone (edit b c))) (edit b c))
    go true = free_sized (edit b c) (edit_sized b z c) (gone (edit b c))
    go false = edit_sized b z c

pub after-n : (b : Base) → SizedBase b → Good b → (c : Command) → (after b c).n ≡ b.n
unfolding after free_all
after-n b z g c = go (settles c)
  where
    go : (x : Bool) → (pick x (free_all (edit b c) (gone (edit b c))) (edit b c)).n ≡ b.n
    go true = edit-n b z g c
    go false = edit-n b z g c

pub finish_sized : (b : Base) → SizedBase b → Sized (finish b)
unfolding finish
finish_sized b z = record { base = z; leaders = length-table (leader_entry b) b.n; counts = length-table (count_entry b) b.n }

-- ---- Demand 2, over the tables: an accepted command leaves sound tables sound, and of the same sizes

pub record Ok (s : Tables) : Type 0 where
  pub sized : Sized s
  pub sound : Sound s

pub next-ok : (s : Tables) (c : Command) → Ok s → Passes s.base c → Ok (next_tables s c)
unfolding next_tables
next-ok s c o p =
    let z = o.sized.base in
    record {
      sized = finish_sized (after s.base c) (after_sized s.base z c);
      sound = finish_sound (after s.base c) (after_good s.base z (sound→entries s o.sound).good c p);
    }

-- ---- the list: exactly the frozen pieces that no draft and no held piece reaches any more

module _ (b : Base) (z : SizedBase b) (g : Good b) where
  gone↔ : (e : Base) (p : ℕ) → Among p (gone_list e) ↔ (Frozen e p × (¬ Kept e p))
  unfolding gone_list gone
  gone↔ e p = (to, from)
    where
      to : Among p (list (gone e) e.n) → Frozen e p × (¬ Kept e p)
      to a =
          let r = (among_list (gone e) e.n p).0 a in
          (is_frozen→ e p r.0 (and_left (is_frozen e p) (not (is_kept e p)) r.1), λ k. T_not (is_kept e p) (and_right (is_frozen e p) (not (is_kept e p)) r.1) (→is_kept e p k))

      from : Frozen e p × (¬ Kept e p) → Among p (list (gone e) e.n)
      from h = (among_list (gone e) e.n p).1 (h.0.below, and_both (is_frozen e p) (not (is_kept e p)) (→is_frozen e p h.0.is) (not_T (is_kept e p) (λ k. h.1 (is_kept→ e p k))))

  none-gone : (e : Base) → Good e → (p : ℕ) → Among p [] ↔ (Frozen e p × (¬ Kept e p))
  none-gone e h p = (λ a. absurd (among_nil a), λ x. absurd (x.1 (h.kept p x.0)))

  pub freed↔ : (c : Command) → Passes b c → (p : ℕ) → Among p (freed_by b c) ↔ (Frozen (edit b c) p × (¬ Kept (edit b c) p))
  unfolding freed_by settles after
  freed↔ New c p = none-gone (edit b New) (after_good b z g New c) p
  freed↔ (Set q k t) c p = gone↔ (edit b (Set q k t)) p
  freed↔ (Freeze q seat) c p = none-gone (edit b (Freeze q seat)) (after_good b z g (Freeze q seat) c) p
  freed↔ (Acquire q seat) c p = none-gone (edit b (Acquire q seat)) (after_good b z g (Acquire q seat) c) p
  freed↔ (Release q seat) c p = gone↔ (edit b (Release q seat)) p
  freed↔ (Bin q) c p = gone↔ (edit b (Bin q)) p
  freed↔ (Look q) c p = none-gone (edit b (Look q)) (after_good b z g (Look q) c) p
