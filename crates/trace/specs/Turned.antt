-- One turn: a chunk is read behind the bytes that are kept, the whole lines are answered, and the rest is kept.
use Rattle.std.specs.Prelude.{◌≡◌, Bool, true, false, Result, Ok, Err, Option, Some, None, List, [], ◌++◌, ℕ, ◌+◌, ◌-◌, ◌≤◌, ◌<◌, length, get_or, take, drop}
use Rattle.std.proofs.Common.{sym, ap, ◌∙◌, subst, arith, length-drop, length-take, get_or-drop, get_or-take, length-take-le, take-add, take-take}
use Rattle.rules.specs.Limits.{most}
use Rattle.rules.specs.Tables.{Store}
use Rattle.rules.specs.Calls.{ReadyStore}
use Rattle.lines.specs.Ending.{Unended, Closed}
use Rattle.chunks.specs.Short.{enough}
use Rattle.chunks.specs.Says.{Says, says-more, says-behind, says-cut, closing, closing_last}
use Rattle.obeying.specs.Standing.{Standing}
use Rattle.reader.specs.Answered.{Stands}
use Rattle.reader.specs.Lines.{NoEnd, Whole, whole_all}
use Rattle.carrying.specs.Carried.{Carried, rest_of}
use Rattle.carrying.specs.Sofar.{Sofar, Went, Over, Finished, over_is, sofar_more, sofar_over}
use Rattle.trace.specs.declared.Failure.{Failure}
use Rattle.trace.specs.Served.{Served}
use Rattle.trace.specs.Came.{Behind}

-- the store stands, and a line without end is kept, or its first 65 bytes
pub record Keeps (a : Standing) (buf : List ℕ) (kept : ℕ) : Type 0 where
  pub stands : Stands a.store.tables.base.n a.store a.list a.work a.from
  pub inside : kept ≤ length buf
  pub few : kept ≤ enough
  pub unended : NoEnd buf 0 kept

-- what goes on, or is over, is what the rules give; and the store is sound in any case
abbrev pub Turns : Store → List ℕ → Standing → List ℕ → Result (Option ℕ) Failure → Type 0
Turns s before a buf (Ok (Some kept)) = Keeps a buf kept × Went s before a.store (take kept buf)
Turns s before a buf (Ok None) = ReadyStore a.store × Over s before a.store
Turns s before a buf (Err _) = ReadyStore a.store

pub record Turned (s : Store) (before : List ℕ) (a : Standing) (buf : List ℕ) (r : Result (Option ℕ) Failure) : Type 0 where
  pub is : Turns s before a buf r

-- ---- laws

-- the input could not be read: nothing is answered
pub turned_unread : {a : Standing} {buf : List ℕ} {kept : ℕ} → Keeps a buf kept → {buf' : List ℕ} {x : Failure} → Turned a.store (take kept buf) a buf' (Err x)
turned_unread k = record { is = k.stands.ready }

-- ---- the whole lines are answered

-- no line ends in the bytes that are kept
kept_unended : (buf : List ℕ) (kept : ℕ) → kept ≤ length buf → NoEnd buf 0 kept → Unended (take kept buf)
kept_unended buf kept h u i l e =
    let k : i < kept = subst (λ (m : ℕ). i < m) (length-take-le kept buf h) l in
    u i (omega arith) k (sym (get_or-take kept buf i 0 k) ∙ e)

module _ {buf buf' : List ℕ} {kept end : ℕ} {last : Bool} (b : Behind buf kept buf' end last) {whole : ℕ} (o : Whole (take end buf') whole) where
  text_size : length (take end buf') ≡ end
  text_size = length-take-le end buf' b.inside

  pub whole_inside : whole ≤ end
  whole_inside = omega (arith, o.inside, text_size)

  pub whole_fits : whole ≤ length buf'
  whole_fits = omega (arith, whole_inside, b.inside)

  pub whole_closed : Closed (take whole buf')
  whole_closed = subst Closed (take-take whole end buf' whole_inside) o.closed

  module _ {s : Store} {a' : Standing} where
    -- not all was written
    pub turned_stop : {x : Failure} → Served s (take whole buf') a' (Err x) → Turned s (take kept buf) a' buf' (Err x)
    turned_stop v = record { is = v.is }

    module _ {u : Unit {0}} (v : Served s (take whole buf') a' (Ok u)) where
      -- the input is over
      pub turned_over : {a : Standing} → Keeps a buf kept → last ≡ true → Turned s (take kept buf) a' buf' (Ok None)
      turned_over k h = record {
        is = (
          v.is.0.ready,
          over_is (take kept buf) (kept_unended buf kept k.inside k.unended)
              (subst (λ (t : List ℕ). Says s t v.is.1.said a'.store []) text_is v.is.1.says),
        );
      }
        where
          closed : take end buf' ≡ closing (take kept buf)
          closed = b.over h

          most_whole : end ≤ whole
          most_whole = omega (
            arith,
            text_size,
            whole_all o
                (subst (λ (t : List ℕ). 0 < length t → get_or t (length t - 1) 0 ≡ 10) (sym closed) (closing_last (take kept buf))),
          )

          text_is : take whole buf' ≡ closing (take kept buf)
          text_is = (let e : whole ≡ end = omega (arith, whole_inside, most_whole) in ap (λ (m : ℕ). take m buf') e) ∙ closed

      -- the input goes on: the rest is carried
      module _ (h : last ≡ false) {buf'' : List ℕ} {rest : ℕ} (c : Carried buf' whole end buf'' rest) where
        abbrev left : List ℕ
        left = rest_of buf' whole end

        parts : take end buf' ≡ take whole buf' ++ left
        parts =
            let e : whole + (end - whole) ≡ end = omega (arith, whole_inside) in
            ap (λ (k : ℕ). take k buf') (sym e) ∙ take-add whole (end - whole) buf'

        left_size : length left ≡ end - whole
        left_size = length-take-le (end - whole) (drop whole buf') (omega (arith, length-drop whole buf', b.inside))

        left_unended : Unended left
        left_unended i l e =
            let k : i < end - whole = omega (arith, left_size) in
            o.after (whole + i) (omega arith) (omega (arith, text_size))
            (get_or-take end buf' (whole + i) 0 (omega arith) ∙ sym (get_or-drop whole buf' i 0) ∙ sym (get_or-take (end - whole) (drop whole buf') i 0 k) ∙ e)

        front_unended : NoEnd buf'' 0 rest
        front_unended i x y e =
            let d : length (take rest buf'') ≡ rest = length-take-le rest buf'' c.inside in
            let f : length (take enough left) ≡ rest = ap length (sym c.front) ∙ d in
            left_unended i (omega (arith, length-take enough left))
            (sym (get_or-take enough left i 0 (omega (arith, c.few))) ∙ ap (λ (t : List ℕ). get_or t i 0) (sym c.front) ∙ get_or-take rest buf'' i 0 y ∙ e)

        text_on : take end buf' ≡ take kept buf ++ take (end - kept) (drop kept buf')
        text_on =
            let e : kept + (end - kept) ≡ end = omega (arith, (b.on h).0) in
            ap (λ (k : ℕ). take k buf') (sym e) ∙ take-add kept (end - kept) buf'
            ∙ ap (λ (t : List ℕ). t ++ take (end - kept) (drop kept buf')) (b.on h).1

        pub turned_on : Turned s (take kept buf) a' buf'' (Ok (Some rest))
        turned_on = record {
          is = (
            record { stands = v.is.0; inside = c.inside; few = c.few; unended = front_unended },
            record {
              chunk = take (end - kept) (drop kept buf');
              said = v.is.1.said ++ [];
              says = subst (λ (t : List ℕ). Says s t (v.is.1.said ++ []) a'.store (take rest buf'')) (sym parts ∙ text_on)
                  (subst (Says s (take whole buf' ++ left) (v.is.1.said ++ []) a'.store) (sym c.front)
                  (says-more (says-behind v.is.1.says left) (says-cut left left_unended)));
            },
          );
        }

-- ---- turn after turn

module _ {s : Store} {before : List ℕ} {a' : Standing} {buf' : List ℕ} (o : Sofar most s before) where
  pub turned_more : {kept : ℕ} → Turned s before a' buf' (Ok (Some kept)) → Keeps a' buf' kept × Sofar most a'.store (take kept buf')
  turned_more v = (v.is.0, sofar_more o v.is.1)

  pub turned_ended : Turned s before a' buf' (Ok None) → ReadyStore a'.store × Finished most a'.store
  turned_ended v = (v.is.0, sofar_over o v.is.1)
