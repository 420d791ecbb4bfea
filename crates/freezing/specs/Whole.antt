-- Freeze of a draft: what each step asks, and that all is frozen.
use Rattle.std.specs.Prelude.{◌≡◌, List, ◌++◌, ℕ, ◌+◌, ◌-◌, ◌*◌, ◌≤◌, ◌<◌, length, set, take, drop}
use Rattle.std.proofs.Common.{sym, ap, ◌∙◌, ⊎_elim, arith, length-set, length-drop, ext_get_or, get_or-drop}
use Rattle.std.proofs.Math.Seq.{drop-append-add}
use Rattle.std.proofs.lemmas.List.Edits.{length-between}
use Rattle.rules.specs.Limits.{none}
use Rattle.rules.specs.Lists.{◌!◌}
use Rattle.rules.specs.Tables.{Tables, tables_of, state}
use Rattle.rules.specs.Commands.{next_tables}
use Rattle.rules.specs.declared.Command.TheVariants.{Freeze}
use Rattle.paths.specs.Classes.{drafts_closed}
use Rattle.tallies.specs.Sums.{get_or_any}
use Rattle.tallies.specs.Stores.{wells_of, exact_of}
use Rattle.into.specs.Into.{Into}
use Rattle.gathering.specs.Queue.{Gathering}
use Rattle.gathering.specs.Walked.{Gathered}
use Rattle.recounting.specs.Standing.{standing_or}
use Rattle.recounting.specs.Taken.{Taking, Taken}
use Rattle.freezing.specs.Freezable.{Freezable}
use Rattle.freezing.specs.Found.{Findable, Found}
use Rattle.freezing.specs.Assembled.{Assembled, third, gathered_each, gathered_all, gathered_alone, assembled}
use Rattle.freezing.specs.Counted.{taking, leader_lt, leader_few, hold_counted}
use Rattle.freezing.specs.Frozen.{frozen}

module _ {s : Tables} {work : List ℕ} {p : ℕ} (d : Freezable s work p) where
  abbrev n : ℕ
  n = s.base.n

  -- the entries behind the six regions of the search
  module _ {entries : List ℕ} (wide : s.base.n ≤ length entries) where
    pub gathering : Gathering s.base.n s.base.states s.base.links s.leaders entries p
    gathering = record {
      small = d.ready.sized.base.most;
      states_n = d.ready.sized.base.states;
      links_n = d.ready.sized.base.links;
      leaders_n = d.ready.sized.leaders;
      entries_n = wide;
      below = d.below;
      is = d.is;
      bare = λ q h e.
          sym (get_or_any s.leaders q none 0 (omega (arith, d.ready.sized.leaders)))
          ∙ (exact_of s d.ready).others q h (λ f. let z : s.base.states ! q ≡ 2 = unfold state in f in omega arith);
      closed = drafts_closed s.base d.ready.sized.base.most (wells_of s d.ready);
    }

    module _ {leaders₁ entries₁ : List ℕ} {size : ℕ} (g : Gathered s.base.n s.base.states s.base.links s.leaders entries p leaders₁ entries₁ size) where
      pub findable : {regions : List ℕ} → 6 * s.base.n ≤ length regions → Findable s.base.n s.base.states s.base.links regions p (take size entries₁)
      findable six = record {
        lent = record {
          most = d.ready.sized.base.most;
          states_n = d.ready.sized.base.states;
          links_n = d.ready.sized.base.links;
          work_n = six;
        };
        closed = drafts_closed s.base d.ready.sized.base.most (wells_of s d.ready);
        below = d.below;
        is = d.is;
        each = λ j h. (gathered_each g wide j h).0;
        all = λ q h r. let w = gathered_all g wide q h r in (w.at, w.below, w.is);
        alone = gathered_alone g wide;
      }

      module _ {regions regions' : List ℕ} (six : 6 * s.base.n ≤ length regions) (f : Found s.base.n s.base.states s.base.links regions p regions') where
        m : Assembled s.base.n s.base.states s.base.links s.leaders p leaders₁ (third s.base.n regions') (take size entries₁)
        m = assembled g wide f

        pub takable : {into : List ℕ} → Into s.base.n s.base.states s.base.links into
            → Taking s.base.n s.base.states s.base.links leaders₁ s.counts into (third s.base.n regions') (take size entries₁)
        takable x = taking d m (omega (arith, length-between regions' (2 * n) (3 * n) (omega (arith, f.size)))) x

        -- behind its eight regions work is as it was
        pub behind : {work : List ℕ} → work ≡ regions ++ entries → length regions ≡ 6 * s.base.n → drop (8 * s.base.n) (regions' ++ entries₁) ≡ drop (8 * s.base.n) work
        behind {work} parted exact =
            let e : 8 * n ≡ length regions' + 2 * n = omega (arith, f.size) in
            let e₀ : 8 * n ≡ length regions + 2 * n = omega arith in
            ap (λ (k : ℕ). drop k (regions' ++ entries₁)) e ∙ drop-append-add regions' entries₁ (2 * n) ∙ same ∙ sym (drop-append-add regions entries (2 * n))
            ∙ ap (λ (k : ℕ). drop k (regions ++ entries)) (sym e₀) ∙ ap (λ (l : List ℕ). drop (8 * n) l) (sym parted)
          where
            same : drop (2 * n) entries₁ ≡ drop (2 * n) entries
            same = ext_get_or 0 (drop (2 * n) entries₁) (drop (2 * n) entries)
                (length-drop (2 * n) entries₁ ∙ ap (λ (k : ℕ). k - 2 * n) g.entries_n ∙ sym (length-drop (2 * n) entries))
                (λ i _. get_or-drop (2 * n) entries₁ i 0 ∙ g.behind (2 * n + i) (omega (arith, g.most)) ∙ sym (get_or-drop (2 * n) entries i 0))

        -- ---- the whole freeze

        module _ {into states' leaders' counts' into' : List ℕ}
            (t : Taken s.base.n s.base.states s.base.links leaders₁ s.counts into (third s.base.n regions') (take size entries₁) states' leaders' counts' into') where
          pub leader_below : leaders' ! p < s.base.n
          leader_below = leader_lt d m t

          pub leader_room : counts' ! (leaders' ! p) < 1028097
          leader_room = leader_few d m t

          pub freezes : tables_of s.base.n states' s.base.links leaders' (set s.base.holds p 1) (set counts' (leaders' ! p) (counts' ! (leaders' ! p) + 1))
              ≡ next_tables s (Freeze p 0)
          freezes =
              frozen d m t.made (length-set counts' (leaders' ! p) (counts' ! (leaders' ! p) + 1) ∙ t.counts_n ∙ d.ready.sized.counts)
              (hold_counted d m t)

          -- the links into each draft are right again
          pub still_into : Into s.base.n s.base.states s.base.links into → Into s.base.n states' s.base.links into'
          still_into x = record {
            size = t.into_n ∙ x.size;
            drafts = λ q h e. ⊎_elim
                (λ w. absurd (let z = (t.made.on q h w).0 in omega arith))
                (λ w. t.kept q w ∙ x.drafts q h (sym (t.made.off q w).0 ∙ e))
                (standing_or (take size entries₁) q);
            others = λ q h e. ⊎_elim
                (λ w. t.emptied q h w)
                (λ w. t.kept q w ∙ x.others q h (λ y. e ((t.made.off q w).0 ∙ y)))
                (standing_or (take size entries₁) q);
          }
