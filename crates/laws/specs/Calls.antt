-- The nine calls: a promise decides, a refused call leaves the store and the list, and the inner door leads to the promise.
use Rattle.std.specs.Prelude.{◌≡◌, Bool, true, false, not, List, [], ◌∷◌, ℕ, ◌*◌, ◌≤◌, T, eqb, leb, length, Ok, Err}
use Rattle.std.proofs.Math.Path.{refl}
use Rattle.std.proofs.Common.{sym, ap, ◌∙◌, subst, arith, T_not, eqb→eq, leb→le, le→leb}
use Rattle.rules.specs.Tests.{◌&◌, pick}
use Rattle.rules.specs.Limits.{most, entries}
use Rattle.rules.specs.Tables.{Tables, Store, is_sound_store}
use Rattle.rules.specs.Words.{Sized, SizedStore}
use Rattle.rules.specs.Commands.{is_look, piece_of, Verdict, accepted, refused, first_of, refusals, verdict}
use Rattle.rules.specs.Calls.{answered, saw, Call, start, does, check, Areas, areas_of, number_of, checked, Outcome, outcome, refused_by}
use Rattle.rules.specs.Calls.{refused_call, seen_at, done_by, accepted_by, Effect, effected, effect_of, takes_work, is_sized, is_sized_store}
use Rattle.rules.specs.Calls.{is_lent, later_refusals, call_refusals, judge, clear, cleared, accepted_call, ended, outcome_of, Promise, Ready, ReadyStore, Did}
use Rattle.rules.specs.History.{is_accepted}
use Rattle.rules.specs.declared.Refusal.{Refusal}
use Rattle.rules.specs.declared.Refusal.TheVariants.{Size, Unsound}
use Rattle.rules.specs.declared.Command.{Command}
use Rattle.laws.specs.Tests.{and_both, and_left, and_right}
use Rattle.laws.specs.Below.{pick_true, pick-false}
use Rattle.laws.specs.Words.{eqb_of}
use Rattle.laws.specs.Passes.{not-not, first_accepted}
use Rattle.laws.specs.Verdicts.{in_order, table, by_table}

-- promises decide: two outcomes, with all areas, that both meet a call's promise are the same
pub decides : {c : Call} {a : Areas} {o o' : Outcome} → Promise c a o → Promise c a o' → o ≡ o'
decides p q = p.exact ∙ sym q.exact

-- ---- sizes

pub sized→ : (s : Tables) → T (is_sized s) → (1 ≤ s.base.n) × Sized s
unfolding is_sized
sized→ s t =
    let n = s.base.n in
    let t1 = and_right (leb 1 n) _ t in
    let t2 = and_right (leb n most) _ t1 in
    let t3 = and_right (eqb (length s.base.states) n) _ t2 in
    let t4 = and_right (eqb (length s.base.links) (4 * n)) _ t3 in
    let t5 = and_right (eqb (length s.leaders) n) _ t4 in (
      leb→le 1 n (and_left (leb 1 n) _ t),
      record {
        base = record {
          states = eqb→eq (length s.base.states) n (and_left (eqb (length s.base.states) n) _ t2);
          links = eqb→eq (length s.base.links) (4 * n) (and_left (eqb (length s.base.links) (4 * n)) _ t3);
          holds = eqb→eq (length s.base.holds) n (and_left (eqb (length s.base.holds) n) (eqb (length s.counts) n) t5);
          most = leb→le n most (and_left (leb n most) _ t1);
        };
        leaders = eqb→eq (length s.leaders) n (and_left (eqb (length s.leaders) n) _ t4);
        counts = eqb→eq (length s.counts) n (and_right (eqb (length s.base.holds) n) (eqb (length s.counts) n) t5);
      },
    )

pub →sized : (s : Tables) → 1 ≤ s.base.n → Sized s → T (is_sized s)
unfolding is_sized
→sized s l z =
    let n = s.base.n in
    and_both (leb 1 n) _ (le→leb 1 n l)
    (and_both (leb n most) _ (le→leb n most z.base.most)
    (and_both (eqb (length s.base.states) n) _ (eqb_of z.base.states)
    (and_both (eqb (length s.base.links) (4 * n)) _ (eqb_of z.base.links)
    (and_both (eqb (length s.leaders) n) _ (eqb_of z.leaders)
    (and_both (eqb (length s.base.holds) n) (eqb (length s.counts) n) (eqb_of z.base.holds) (eqb_of z.counts))))))

pub sized_store→ : (s : Store) → T (is_sized_store s) → (1 ≤ s.tables.base.n) × SizedStore s
unfolding is_sized_store
sized_store→ s t =
    let x = sized→ s.tables (and_left (is_sized s.tables) _ t) in
    let r = and_right (is_sized s.tables) _ t in (
      x.0,
      record {
        tables = x.1;
        register = eqb→eq (length s.register) entries (and_left (eqb (length s.register) entries) _ r);
        into = eqb→eq (length s.into) s.tables.base.n (and_right (eqb (length s.register) entries) _ r);
      },
    )

pub →sized_store : (s : Store) → 1 ≤ s.tables.base.n → SizedStore s → T (is_sized_store s)
unfolding is_sized_store
→sized_store s l z =
    and_both (is_sized s.tables) _ (→sized s.tables l z.tables) (and_both (eqb (length s.register) entries) _ (eqb_of z.register) (eqb_of z.into))

pub lent_sized : (a : Areas) (c : Call) → T (is_lent a c) → (1 ≤ a.store.tables.base.n) × SizedStore a.store
unfolding is_lent
lent_sized a c t = sized_store→ a.store (and_left (is_sized_store a.store) _ t)

-- the tables of a ready store are ready
pub ready_tables : {s : Store} → ReadyStore s → Ready s.tables
ready_tables r = record { least = r.least; sized = r.sized.tables; sound = r.sound.tables }

-- ---- accepted or refused

-- no call answers a refusal as if it were accepted
refused_not : (r : Refusal) (c : Call) → T (not (is_accepted (refused_call r c)))
unfolding refused_call refused_by is_accepted
refused_not r start = tt
refused_not r (does c) = go (is_look c)
  where
    go : (b : Bool) → T (not (is_accepted (pick b (saw (Err r)) (answered (Err r)))))
    go true = tt
    go false = tt
refused_not r check = tt

pub accepted_judged : (a : Areas) (c : Call) → T (is_accepted (outcome_of a c).reply) → judge a c ≡ accepted
unfolding outcome_of
accepted_judged a c t = go (judge a c) t
  where
    go : (v : Verdict) → T (is_accepted (ended a c v).reply) → v ≡ accepted
    go accepted t = refl
    go (refused r) t = unfold ended in (absurd (T_not (is_accepted (refused_call r c)) (refused_not r c) t))

pub accepted_outcome : (a : Areas) (c : Call) → judge a c ≡ accepted → outcome_of a c ≡ accepted_call (cleared a c) c
unfolding outcome_of ended
accepted_outcome a c e = ap (ended a c) e

-- what holds of a call that is accepted
pub record Accepted (a : Areas) (c : Command) : Type 0 where
  pub lent : T (is_lent a (does c))
  pub sound : T (is_sound_store a.store)
  pub verdict : verdict a.store c ≡ accepted

pub judged : (a : Areas) (c : Command) → judge a (does c) ≡ accepted → Accepted a c
unfolding judge call_refusals later_refusals
judged a c e =
    let r1 = first_accepted (not (is_lent a (does c))) _ _ e in
    let r2 = first_accepted (not (is_sound_store a.store)) _ _ r1.1 in
    record { lent = not-not (is_lent a (does c)) r1.0; sound = not-not (is_sound_store a.store) r2.0; verdict = unfold verdict in r2.1 }

-- every call answers an acceptance as one
accepted_said : (c : Call) (a : Areas) → T (is_accepted (accepted_call a c).reply)
unfolding accepted_call is_accepted accepted_by seen_at
accepted_said start a = tt
accepted_said (does c) a = go (is_look c)
  where
    go : (b : Bool) → T (is_accepted (pick b (saw (seen_at a.store.tables (piece_of c))) (answered (done_by a.store.tables.base c))))
    go true = tt
    go false = unfold done_by in tt
accepted_said check a = go (is_sound_store a.store)
  where
    go : (b : Bool) → T (is_accepted (checked (pick b (Ok true) (Ok false))))
    go true = tt
    go false = tt

-- a refused call leaves the store and the list unchanged
pub refused_stays : (a : Areas) (c : Call) → T (not (is_accepted (outcome_of a c).reply)) → ((outcome_of a c).areas.store ≡ a.store) × ((outcome_of a c).areas.list ≡ a.list)
unfolding outcome_of ended cleared
refused_stays a c t = go (judge a c) t
  where
    same : (b : Bool) (w : List ℕ) → ((pick b a (areas_of a.store a.list w)).store ≡ a.store) × ((pick b a (areas_of a.store a.list w)).list ≡ a.list)
    same true w = (refl, refl)
    same false w = (refl, refl)

    go : (v : Verdict) → T (not (is_accepted (ended a c v).reply)) → ((ended a c v).areas.store ≡ a.store) × ((ended a c v).areas.list ≡ a.list)
    go accepted t = absurd (T_not (is_accepted (accepted_call (cleared a c) c).reply) t (accepted_said c (cleared a c)))
    go (refused r) t = same (eqb (number_of r) 1) _

-- ---- the inner door

-- none of the rows is SIZE
unfoldable pub no_size : List (Bool × Refusal) → Bool
no_size [] = true
no_size (r ∷ rs) = not (eqb (number_of r.1) 1) & no_size rs

first_later : (rs : List (Bool × Refusal)) (r : Refusal) → T (no_size rs) → first_of rs ≡ refused r → T (not (eqb (number_of r) 1))
unfolding no_size first_of
first_later [] r t e = absurd (let z : ◌≡◌ {A = ℕ} 0 1 = cc e in omega arith)
first_later (q ∷ rs) r t e = go q.0 e (λ u. first_later rs r (and_right (not (eqb (number_of q.1) 1)) (no_size rs) t) u)
  where
    go : (b : Bool) → pick b (refused q.1) (first_of rs) ≡ refused r → (first_of rs ≡ refused r → T (not (eqb (number_of r) 1))) → T (not (eqb (number_of r) 1))
    go true e ih = let same : q.1 ≡ r = cc e in subst (λ (x : Refusal). T (not (eqb (number_of x) 1))) same (and_left (not (eqb (number_of q.1) 1)) (no_size rs) t)
    go false e ih = ih e

pub not_size : (s : Store) (c : Command) (r : Refusal) → verdict s c ≡ refused r → T (not (eqb (number_of r) 1))
not_size s c r e = first_later (in_order table (refusals s c)) r (unfold in_order no_size in tt) (sym (by_table s c) ∙ e)

pub double_not : (b : Bool) → T b → T (not (not b))
double_not true t = tt
double_not false t = t

pub judge_through : (a : Areas) (c : Command) → T (is_lent a (does c)) → T (is_sound_store a.store) → judge a (does c) ≡ verdict a.store c
unfolding judge call_refusals later_refusals first_of verdict
judge_through a c l s =
    pick-false (not (is_lent a (does c))) _ _ (double_not (is_lent a (does c)) l) ∙ pick-false (not (is_sound_store a.store)) _ _ (double_not (is_sound_store a.store) s)

-- the effect of a command on sound tables is what its call does to store and list; work is clear
pub through : (a : Areas) (c : Command) (o : Effect) → T (is_lent a (does c)) → T (is_sound_store a.store) → Did c a.store a.list o
    → Promise (does c) a (outcome o.reply (areas_of o.store o.list (clear a.store.tables.base.n a.work)))
unfolding effect_of outcome_of
through a c o l s d = record { exact = ap shape d.exact ∙ go (verdict a.store c) refl ∙ ap (ended a (does c)) (sym (judge_through a c l s)) }
  where
    w : List ℕ
    w = clear a.store.tables.base.n a.work

    shape : Effect → Outcome
    shape e = outcome e.reply (areas_of e.store e.list w)

    go : (v : Verdict) → verdict a.store c ≡ v → shape (effected a.store a.list c v) ≡ ended a (does c) v
    go accepted e = unfold effected ended accepted_call cleared takes_work in refl
    go (refused r) e = unfold effected ended refused_call cleared takes_work in (ap (outcome (refused_by r c)) (sym (pick-false (eqb (number_of r) 1) a _ (not_size a.store c r e))))

-- refused by UNSOUND
pub flawed : (a : Areas) (c : Command) → T (is_lent a (does c)) → T (not (is_sound_store a.store))
    → Promise (does c) a (outcome (refused_by Unsound c) (areas_of a.store a.list (clear a.store.tables.base.n a.work)))
unfolding outcome_of
flawed a c l s = record { exact = sym (ap (ended a (does c)) e ∙ (unfold ended refused_call cleared takes_work in refl)) }
  where
    e : judge a (does c) ≡ refused Unsound
    e = unfold judge call_refusals later_refusals first_of in
        (pick-false (not (is_lent a (does c))) _ _ (double_not (is_lent a (does c)) l) ∙ pick_true (not (is_sound_store a.store)) _ _ s)

-- refused by SIZE, and nothing is changed
pub short : (a : Areas) (c : Call) → T (not (is_lent a c)) → Promise c a (outcome (refused_call Size c) a)
unfolding outcome_of
short a c l = record { exact = sym (ap (ended a c) e ∙ (unfold ended in refl)) }
  where
    e : judge a c ≡ refused Size
    e = unfold judge call_refusals first_of in (pick_true (not (is_lent a c)) _ _ l)
