-- What walks of thin functions share, as the four functions of `tags` are. Each of these is passed references to plain data, and
-- plain data, and asks one function that works by value. So a walk's parts are laws here: the way in and out, a reference that is
-- opened and closed, the call, and `thin`, which takes the walk to the contract. A walk says only which cell stands where.
-- The checker proves the four by itself, so nothing uses these laws.
-- Assumes nothing.
use mathlib.Core.Path.{◌≡◌, refl, sym, ap, subst}
use Prim.Native.Nat.{ℕ, zero, suc, ◌+◌}
use mathlib.Core.List.{List, [], ◌∷◌, ◌++◌}
use mathlib.Core.Option.{some as found}
use seplogic.Ra.Ura.{Ura}
use base.Fraction.{full_share}
use lib.Dec.{T}
use mir.Raw.{raw as raw_ty}
use mir.Syntax.{Width, Ty, Fn, Callee, erased, place, deref, field, copy, rv_opd, assign, seq, call, Place, Opd as Operand, Body as Code}
use mir.Val.{Val, vint, vptr, vunit, WT, has_ty}
use base.Logic.{SProp, ent, emp, sep, id⊢, via, fst∗, snd∗, emp∗, comm∗, mono_l, mono_r, mono∗, ex_e}
use base.Stored.{Gv}
use base.Fml.{Lft, Share, Fml, ftrue, fat, froom, fdies, flft, fobs, fauth, fobor}
use prog.Memory.{Memory, field_of}
use prog.Model.{Model}
use prog.Routine.{Routine, Env as Bindings}
use prog.Wp.{Heap, Env, Calls, Loops, WpFn, Tables, Closed, eval_opds, spot_of}
use sound.WpLaws.{FmC, fm_of, WpFn-mono}
use types.Logic.{Logic, sem}
use contract.Monad.{Fun, fact, fact_i}
use contract.Lifetimes.{Lfts, Shares, Within, toks}
use contract.Running.{Running, tables, tables_of}
use types.Kit.{Item, ‵, raw, ◌⊛◌, some, later, mean, ⋆, nth, del, put, push, pop, ++⊢, ⊢++, Go, Goal, prop, runs, lands, frees}
use types.Kit.{aim, Soaks, Post, Seq, Step, step, ◌$◌, use1, split, drop, move, pick, await, fsplit3, fjoin3, feq_i}
use types.Part.{Part, look_in}
use types.Run.{Opd, Opds, look, look_raw, init, store_raw, forget, stop, hop, fld, from, load, of_opd, assigns, land, free1}
use types.SemTy.{Body}
use denote.Exit.{yes, Last, left}
use denote.Laws.{Is, Ises, Tells, Tellss, Spells, Are, valss, shows, Makes, Makess, owns_make}
use denote.Memory.{cell_at, mem, lone}
use denote.Plain.{UInt, Nothing, uint_Tells, uint_Makes, uint_Lawful, Nothing-Tells, Nothing-Makes, Nothing-Lawful}
use denote.RattleType.{RattleType, Denots, Valss, flat, owns}
use denote.Ref.{MutBor, MutRef, at_last, mut_vals}
use denote.Signature.{Slot, plain, mut_ref, types_at}
use denote.Steps.{only, opens, closes, owned, facts, heard}
use denote.Struct.Declared.{Declared, fields, row}
use denote.Struct.Laws as laws
use denote.Struct.Steps.{spelt}
use denote.Struct.Struct.{Plains, AreAll}
use denote.Triple.Clauses.{Clauses, Ended, at_exit, lasts, ensured, closing}
use denote.Triple.End.{Fins, all}
use denote.Triple.Spec.{Meets, triple_of}
use denote.Triple.Statement.{Contract, Triple}
use denote.Triple.Table.{entered, cited}
use denote.Triple.Walked.{Stay, Stays, stay_ref, stay_none, fits_of, has_of, Goes, AllGo, Goes-ref, Goes-none, walk_of, ends_at, walked, walk_Meets}
use Rattle.ledger.specs.contracts.Ledger as L
use Rattle.ledger.proofs.Ledger.TheLaws as L'

-- ---- plain data: a type of one machine value, which its relation tells, that owns facts alone and is at exit as it was passed
pub record Data : Type 2 where
  pub row : RattleType
  pub val : row.Denot → Val
  pub tells : Tells row (Is row) (λ x. val x ∷ [])
  pub makes : {M : Type 1} {𝓤 : Ura M} (𝓛 : Logic 𝓤) → Makes 𝓛 row (Is row)
  pub typed : {M : Type 1} {𝓤 : Ura M} → (𝓛 : Logic 𝓤)
      → (x : row.Denot) → Is row x (val x ∷ []) → T (has_ty (lone row.mir) (val x)) × WT (val x)
  -- nothing is said of it at exit
  pub silent : (x : row.Denot) (w : Last (row.exit yes) x) → left (row.exit yes) x w ≡ ftrue
  -- what is known of each field, where it is a struct
  pub Parts : row.Denot → Type 0
  pub parts : (x : row.Denot) → Is row x (val x ∷ []) → Parts x

abbrev pub uint : Width → Data
uint w = record {
  row = UInt w;
  val = vint w;
  tells = uint_Tells w;
  makes = λ 𝓛. uint_Makes 𝓛 w;
  typed = λ 𝓛 x is. ((uint_Lawful 𝓛 w).typed x _ is).0;
  silent = λ x w. refl;
  Parts = λ x. Unit {0};
  parts = λ x is. tt;
}

abbrev pub unit : Data
unit = record {
  row = Nothing;
  val = λ _. vunit;
  tells = Nothing-Tells;
  makes = λ 𝓛. Nothing-Makes 𝓛;
  typed = λ 𝓛 x is. ((Nothing-Lawful 𝓛).typed x _ is).0;
  silent = λ x w. refl;
  Parts = λ x. Unit {0};
  parts = λ x is. tt;
}

abbrev pub struct : (S : Declared) → laws.Laws S → Plains (fields S)
    → ((x : S.D) (w : Last ((row S).exit yes) x) → left ((row S).exit yes) x w ≡ ftrue) → Data
struct S fs plains silent = record {
  row = row S;
  val = laws.val S fs;
  tells = laws.tells S fs;
  makes = λ 𝓛. laws.makes S plains 𝓛;
  typed = λ 𝓛 x is. ((laws.lawful S fs 𝓛).typed x _ is).0;
  silent = silent;
  Parts = λ x. AreAll (fields S) (S.to x) (valss (fields S) (laws.spells S.parts fs) (S.to x));
  parts = λ x is. laws.owed S fs x _ is;
}

abbrev pub ledger : Data
ledger = struct L.the_type L'.the_laws L'.the_plain (λ x w. refl)

-- ---- a parameter: its slot, and what is owed of it where a walk is taken to the contract
pub record Param (n : ℕ) : Type 2 where
  pub slot : Slot n
  pub stay : Stay slot yes
  pub spell : (κs : Lfts n) → (slot.row κs).Denot → List Val
  pub tells : (κs : Lfts n) → Tells (slot.row κs) (Is (slot.row κs)) (spell κs)
  pub fits : (κs : Lfts n) (x : (slot.row κs).Denot) (w : Last ((slot.row κs).exit yes) x) → stay.fit κs x w
  pub goes : {M : Type 1} {𝓤 : Ura M} (𝓛 : Logic 𝓤) → Goes 𝓛 n slot yes stay

-- `&'j mut D`, and D by value
abbrev pub lent : {n : ℕ} (j : ℕ) → Within n j → Data → Param n
lent {n} j ok D = record {
  slot = mut_ref j ok (λ _. D.row);
  stay = stay_ref (j ∷ []) ok (plain (λ _. D.row));
  spell = λ κs. mut_vals;
  tells = λ κs x vs is. is.0;
  fits = λ κs x w. tt;
  goes = λ 𝓛. Goes-ref 𝓛 n j ok (plain (λ _. D.row));
}

abbrev pub value : {n : ℕ} → Data → Param n
value {n} D = record {
  slot = plain (λ _. D.row);
  stay = stay_none (λ _. D.row) yes;
  spell = λ κs x. D.val x ∷ [];
  tells = λ κs. D.tells;
  fits = λ κs x w. tt;
  goes = λ 𝓛. Goes-none 𝓛 n (λ _. D.row) yes (λ κs. D.silent);
}

module _ {n : ℕ} where
  abbrev slots : List (Param n) → List (Slot n)
  slots [] = []
  slots (p ∷ ps) = p.slot ∷ slots ps

  abbrev stays : (ps : List (Param n)) → Stays (slots ps) (all yes (slots ps))
  stays [] = tt
  stays (p ∷ ps) = (p.stay, stays ps)

  all_go : {M : Type 1} {𝓤 : Ura M} (𝓛 : Logic 𝓤) (ps : List (Param n))
      → AllGo 𝓛 n (slots ps) (all yes (slots ps)) (stays ps)
  all_go 𝓛 [] = tt
  all_go 𝓛 (p ∷ ps) = (p.goes 𝓛, all_go 𝓛 ps)

  module _ (κs : Lfts n) where
    abbrev rows : List (Param n) → List RattleType
    rows ps = types_at (slots ps) κs

    abbrev Ends : (ps : List (Param n)) → Denots (rows ps) → Type 0
    Ends ps = Fins κs (slots ps) (all yes (slots ps))

    abbrev spells : (ps : List (Param n)) → Spells (rows ps)
    spells [] = tt
    spells (p ∷ ps) = (p.spell κs, spells ps)

    abbrev vals : (ps : List (Param n)) → Denots (rows ps) → Valss (rows ps)
    vals ps = valss (rows ps) (spells ps)

    all_told : (ps : List (Param n)) → Tellss (rows ps) (Ises (rows ps)) (spells ps)
    all_told [] = tt
    all_told (p ∷ ps) = (p.tells κs, all_told ps)

    all_fit : (ps : List (Param n)) (a : Denots (rows ps)) (ws : Ends ps a) → fits_of κs (slots ps) (all yes (slots ps)) (stays ps) a ws
    all_fit [] a ws = tt
    all_fit (p ∷ ps) a ws = (p.fits κs a.0 ws.0, all_fit ps a.1 ws.1)

-- the signature of a function, each of whose references is still had at exit
abbrev ended_of : {n : ℕ} → List (Param n) → Data → Ended
ended_of {n} ps out = record {
  signature = record { lifetimes = n; outlives = []; params = slots ps; result = plain (λ _. out.row) };
  kept = all yes (slots ps);
}

-- ---- a function by value: it takes and returns plain data, and its contract is one fact, `says`
abbrev values : List Data → List (Param 0)
values [] = []
values (D ∷ Ds) = value D ∷ values Ds

make-all : {M : Type 1} {𝓤 : Ura M} (𝓛 : Logic 𝓤) → (Ds : List Data)
    → Makess 𝓛 (rows tt (values Ds)) (Ises (rows tt (values Ds)))
make-all 𝓛 [] = tt
make-all 𝓛 (D ∷ Ds) = (D.makes 𝓛, make-all 𝓛 Ds)

pub record ByValue : Type 2 where
  pub ins : List Data
  pub out : Data
  pub says : Denots (rows tt (values ins)) → out.row.Denot → Type 0

module _ (B : ByValue) where
  abbrev Ins : List RattleType
  Ins = rows tt (values B.ins)

  abbrev given : Denots Ins → Valss Ins
  given = vals tt (values B.ins)

  abbrev asked : Ended
  asked = ended_of (values B.ins) B.out

  module _ {M : Type 1} {𝓤 : Ura M} (𝓛 : Logic 𝓤) where
    abbrev promises : Clauses 𝓤 asked
    promises κs a = record { ghost = Unit {0}; requires = λ _. emp 𝓤; ensures = λ _ r _. fact 𝓤 (B.says a r) }

    abbrev pub promised : Contract 𝓤
    promised = triple_of 𝓛 asked.signature (closing 𝓛 asked promises)

-- ---- steps of a walk
-- what is had for nothing, put beside what there is
beside : {M : Type 1} (𝓤 : Ura M) (X : SProp 𝓤) {Y : SProp 𝓤} → ent 𝓤 (emp 𝓤) Y → ent 𝓤 X (sep 𝓤 X Y)
beside 𝓤 X {Y} h = via 𝓤 (sep 𝓤 (emp 𝓤) X) (emp∗ 𝓤 X) (via 𝓤 (sep 𝓤 Y X) (mono_l 𝓤 X h) (comm∗ 𝓤 Y X))

-- what a reference to plain data owns
abbrev loan : Lft → (D : Data) → MutBor D.row.Denot → Fml
loan κ D x = (MutRef erased κ D.row).own_val x (mut_vals x)

-- what stands for the reference x while it is open: where it points lies h
abbrev opened : {M : Type 1} {𝓤 : Ura M} → Lft → Share → (D : Data) → MutBor D.row.Denot → D.row.Denot → Gv → Gv
    → List (Item 𝓤) → List (Item 𝓤)
opened κ q D x h u w Γ = ‵ (cell_at full_share D.row.mir (D.val h ∷ []) x.ref_ptr.0 x.ref_ptr.1)
    ∷ ‵ (fobor κ q (Body (mem D.row) x.ref_ptr.0 x.ref_ptr.1 x.ghost_name)) ∷ ‵ (fobs x.ghost_name u) ∷ ‵ (fauth x.ghost_name w) ∷ Γ

-- the cell of the local i, and its room
module _ {M : Type 1} (𝓤 : Ura M) (H : Heap 𝓤) (E : Env 𝓤 H) (i : ℕ) where
  abbrev cell_of : Share → Val → Item 𝓤
  cell_of q v = ‵ (fat q (spot_of 𝓤 H E i).0 (spot_of 𝓤 H E i).1 (spot_of 𝓤 H E i).2 v)

  abbrev room_of : Item 𝓤
  room_of = ‵ (froom (spot_of 𝓤 H E i).0 (spot_of 𝓤 H E i).1 (spot_of 𝓤 H E i).2)

module _ {M : Type 1} {𝓤 : Ura M} {𝓛 : Logic 𝓤} {K : Type 0} {Γ : List (Item 𝓤)} where
  -- the local at the positions n and n + 1 is freed, whatever it holds
  open 𝓛 use {H}

  pub gone : K → (n : ℕ) {τ : Ty} {b : ℕ} {v : Val} {E : Env 𝓤 H} {G : Goal 𝓤 H}
      → ◌≡◌ {A = Item 𝓤 × Item 𝓤} (nth 𝓛 n Γ, nth 𝓛 n (del 𝓛 n Γ)) (‵ (fat full_share τ b zero v), ‵ (fdies τ b))
      → Step K 𝓛 (del 𝓛 n (del 𝓛 n Γ)) (frees E G) Γ (frees ((τ, b) ∷ E) G)
  gone t n {τ} {b} {v} {E} {G} e = step (λ s. move t (n ∷ []) $ move t (suc n ∷ []) $ forget t 1 (λ i. (e i).0) $
      subst (λ (i : Item 𝓤). Seq K 𝓛 (i ∷ ‵ (froom τ b zero) ∷ del 𝓛 n (del 𝓛 n Γ)) (frees ((τ, b) ∷ E) G)) (λ i. (sym e i).1)
      (move t (1 ∷ 0 ∷ []) $ free1 t $ s))

  module _ {G : Goal 𝓤 H} where
    -- a reference is opened, and it is known what lies there
    pub takes : K → Soaks G → (D : Data) → {κ : Lft} {q : Share} (x : MutBor D.row.Denot) → (Is D.row x.now (D.val x.now ∷ [])
        → Seq K 𝓛 (opened κ q D x x.now (D.row.coded.code x.now) (D.row.coded.code x.now) Γ) G)
        → Seq K 𝓛 (‵ (loan κ D x) ∷ ‵ (flft κ q) ∷ Γ) G
    takes t z D x k = fsplit3 t $ drop t $ opens t z D.row {h = x.now} x.ref_ptr.0 x.ref_ptr.1 (λ vs.
        spelt t D.row (Is D.row) (shows 𝓛 D.row) (λ y. D.val y ∷ []) D.tells full_share x.now vs x.ref_ptr.0 x.ref_ptr.1 $
        move t (1 ∷ []) $ facts t D.row (Is D.row) (shows 𝓛 D.row) x.now (D.val x.now ∷ []) k)

    -- and closed, at what lies there by then
    pub puts : K → Soaks G → (D : Data) → {κ : Lft} {q : Share} {u w : Gv} (x : MutBor D.row.Denot) (h : D.row.Denot)
        → Is D.row h (D.val h ∷ []) → Step K 𝓛 (‵ (loan κ D (at_last x h)) ∷ ‵ (flft κ q) ∷ Γ) G (opened κ q D x h u w Γ) G
    puts t z D x h is = step (λ s. owned t D.row (Is D.row) (D.makes 𝓛) h (D.val h ∷ []) is $ move t (1 ∷ 0 ∷ []) $
        closes t z D.row h (D.val h ∷ []) x.ref_ptr.0 x.ref_ptr.1 $ feq_i t (List Val) (mut_vals x) (mut_vals x) refl $ fjoin3 t $ s)

  module _ {E : Env 𝓤 H} {i : ℕ} where
    -- operands: a local; what lies behind a local that is a reference; a field of a local
    pub whole_of : K → (n : ℕ) {q : Share} {v : Val} → nth 𝓛 n Γ ≡ cell_of 𝓤 H E i q v → Opd K 𝓛 Γ E (copy (place i [])) v
    whole_of t n e = load t (from t (stop t)) (look t n e)

    pub behind : K → (n m : ℕ) {b o : ℕ} {q q' : Share} {τ : Ty} {v : Val} → nth 𝓛 n Γ ≡ cell_of 𝓤 H E i q (vptr b o)
        → nth 𝓛 m Γ ≡ ‵ (fat q' (raw_ty τ) b o v) → Opd K 𝓛 Γ E (copy (place i (deref τ ∷ []))) v
    behind t n m e e' = load t (from t (hop t (look t n e) (stop t))) (look_raw t m e')

    pub part_of : K → (n : ℕ) {k d : ℕ} {q : Share} {τ : Ty} {v : Val} {back : Val → Item 𝓤} → field_of (spot_of 𝓤 H E i).0 k ≡ found (τ, d)
        → Part K 𝓛 (nth 𝓛 n Γ) q τ (spot_of 𝓤 H E i).1 ((spot_of 𝓤 H E i).2 + d) v back → Opd K 𝓛 Γ E (copy (place i (field k ∷ []))) v
    part_of t n e p = load t (from t (fld t e (stop t))) (look_in t n p)

    module _ {C : Calls 𝓤 H} {Λ : Loops 𝓤 H} {q : Post 𝓤 H} {rest : Code} {v : Val} where
      -- what a call returned is stored in a fresh local
      pub lands-in : K → (n : ℕ) → nth 𝓛 n Γ ≡ room_of 𝓤 H E i → T (has_ty (spot_of 𝓤 H E i).0 v) × WT v
          → Step K 𝓛 (put 𝓛 n (cell_of 𝓤 H E i full_share v) Γ) (runs C Λ E rest q) Γ (lands C Λ E (place i []) v rest q)
      lands-in t n e wt = land t (from t (stop t)) (init t n e wt)

      -- an operand is stored in a fresh local, and behind a local that is a reference
      pub sets : K → {x : Operand} → Opd K 𝓛 Γ E x v → (n : ℕ) → nth 𝓛 n Γ ≡ room_of 𝓤 H E i
          → T (has_ty (spot_of 𝓤 H E i).0 v) × WT v
          → Step K 𝓛 (put 𝓛 n (cell_of 𝓤 H E i full_share v) Γ) (runs C Λ E rest q) Γ (runs C Λ E (seq (assign (place i []) (rv_opd x)) rest) q)
      sets t a n e wt = assigns t (of_opd t a) (from t (stop t)) (init t n e wt)

      pub stores : K → {x : Operand} → Opd K 𝓛 Γ E x v → (n m : ℕ) {b o : ℕ} {s : Share} {τ : Ty} {u : Val}
          → nth 𝓛 n Γ ≡ cell_of 𝓤 H E i s (vptr b o) → nth 𝓛 m Γ ≡ ‵ (fat full_share (raw_ty τ) b o u) → T (has_ty τ v) × WT v
          → Step K 𝓛 (put 𝓛 m (‵ (fat full_share (raw_ty τ) b o v)) Γ) (runs C Λ E rest q)
          Γ (runs C Λ E (seq (assign (place i (deref τ ∷ [])) (rv_opd x)) rest) q)
      stores t a n m e e' wt = assigns t (of_opd t a) (from t (hop t (look t n e) (stop t))) (store_raw t m e' wt)

  -- a function by value is called. What its arguments own is made and not carried. Of what it returns the fact is known, and the
  -- machine value, so that its fields can be read
  pub asks : K → {E : Env 𝓤 H} {C : Calls 𝓤 H} {Λ : Loops 𝓤 H} {q : Post 𝓤 H} {f : Callee} {xs : List Operand} {d : Place} {rest : Code}
      → FmC 𝓤 H 𝓛.laws C → (B : ByValue) → Triple 𝓤 (C f) (promised B 𝓛) → (a : Denots (Ins B))
      → Are (Ins B) (Ises (Ins B)) a (given B a) → Opds K 𝓛 Γ E xs (flat (Ins B) (given B a))
      → ((r : B.out.row.Denot) → B.says a r → Is B.out.row r (B.out.val r ∷ []) → Seq K 𝓛 Γ (lands C Λ E d (B.out.val r) rest q))
      → Seq K 𝓛 Γ (runs C Λ E (seq (call f xs d) rest) q)
  asks t {E} {C} {Λ} {q} {f} {xs} {d} {rest} fm B known a are os k = record {
    prf = via 𝓤 (eval_opds 𝓤 H E xs (λ us. C f us after))
        (os.go (λ us. C f us after) (via 𝓤 (sep 𝓤 (C f vs back) (⋆ 𝓛 Γ))
        (via 𝓤 (sep 𝓤 (emp 𝓤) (⋆ 𝓛 Γ)) (emp∗ 𝓤 (⋆ 𝓛 Γ)) (mono_l 𝓤 (⋆ 𝓛 Γ) (via 𝓤 _ brings (known y))))
        (fm f vs back after (⋆ 𝓛 Γ) (λ v. via 𝓤 (⋆ 𝓛 (raw (back v) ∷ Γ)) (push 𝓛 (raw (back v)) Γ) (heeds v).prf))))
        (𝓛.laws.⇛_intro _);
  }
    where
      R : RattleType
      R = B.out.row

      y : (promised B 𝓛).Ghost
      y = ((tt, tt, tt, a, given B a), tt)

      vs : List Val
      vs = (promised B 𝓛).args y

      back : Val → SProp 𝓤
      back = (promised B 𝓛).post y

      after : Val → SProp 𝓤
      after v = aim 𝓤 H (lands C Λ E d v rest q)

      brings : ent 𝓤 (emp 𝓤) ((promised B 𝓛).pre y)
      brings = via 𝓤 _ (beside 𝓤 (emp 𝓤) (owns_make 𝓛 (Ins B) (Ises (Ins B)) (make-all 𝓛 B.ins) a (given B a) are))
          (beside 𝓤 _ (id⊢ 𝓤 (emp 𝓤)))

      result : R.Denot → SProp 𝓤
      result r = ensured 𝓛 (asked B) (promises B 𝓛) tt a tt r

      said : (r : R.Denot) → ent 𝓤 (result r) (fact 𝓤 (B.says a r))
      said r = ex_e 𝓤 _ (λ ws. snd∗ 𝓤 (sem 𝓛 (lasts (asked B) tt a ws)) (fact 𝓤 (B.says a r)))

      heeds : (v : Val) → Seq K 𝓛 (raw (back v) ∷ Γ) (lands C Λ E d v rest q)
      heeds v = use1 𝓛 (later (some (λ (r : R.Denot). (‵ ftrue ⊛ ‵ (R.own_val r (v ∷ []))) ⊛ raw (result r)))) (id⊢ 𝓤 _) $
          await t tt $ pick t (λ r. split t $ move t (1 ∷ []) $ use1 𝓛 (raw (fact 𝓤 (B.says a r))) (said r) $
          heard t (B.says a r) (λ e. split t $ drop t $ facts t R (Is R) (shows 𝓛 R) r (v ∷ []) (λ is.
          subst (λ (us : List Val). Is R r us → Seq K 𝓛 Γ (lands C Λ E d (only us) rest q)) (sym (B.out.tells r (v ∷ []) is)) (k r e) is)))

-- ---- the two ends of a walk. On entry and on exit each lifetime's token and each parameter is an entry of the context
module _ {M : Type 1} {𝓤 : Ura M} (𝓛 : Logic 𝓤) where
  open 𝓛 use {A}

  abbrev tokens : (n : ℕ) → Lfts n → Shares n → List (Item 𝓤)
  tokens zero κs qs = []
  tokens (suc n) κs qs = ‵ (flft κs.0 qs.0) ∷ tokens n κs.1 qs.1

  module _ {n : ℕ} (κs : Lfts n) where
    -- as it was passed, and as it is had at exit, at the last values ws
    abbrev brought : (ps : List (Param n)) → Denots (rows κs ps) → List (Item 𝓤)
    brought [] a = []
    brought (p ∷ ps) a = ‵ ((p.slot.row κs).own_val a.0 (p.spell κs a.0)) ∷ brought ps a.1

    abbrev kept : (ps : List (Param n)) (a : Denots (rows κs ps)) → Ends κs ps a → List (Item 𝓤)
    kept [] a ws = []
    kept (p ∷ ps) a ws = ‵ (p.stay.has κs a.0 ws.0 (p.spell κs a.0)) ∷ kept ps a.1 ws.1

  -- the kit has the tokens, and the parameters, as one assertion: a star that ends in `emp`
  abbrev chain : List (Item 𝓤) → SProp 𝓤
  chain [] = emp 𝓤
  chain (i ∷ Γ) = sep 𝓤 (mean 𝓛 i) (chain Γ)

  unchain : (Γ : List (Item 𝓤)) → ent 𝓤 (chain Γ) (⋆ 𝓛 Γ)
  unchain [] = id⊢ 𝓤 (emp 𝓤)
  unchain (i ∷ Γ) = via 𝓤 (sep 𝓤 (mean 𝓛 i) (⋆ 𝓛 Γ)) (mono_r 𝓤 (mean 𝓛 i) (unchain Γ)) (push 𝓛 i Γ)

  enchain : (Γ : List (Item 𝓤)) → ent 𝓤 (⋆ 𝓛 Γ) (chain Γ)
  enchain [] = id⊢ 𝓤 (emp 𝓤)
  enchain (i ∷ Γ) = via 𝓤 (sep 𝓤 (mean 𝓛 i) (⋆ 𝓛 Γ)) (pop 𝓛 i Γ) (mono_r 𝓤 (mean 𝓛 i) (enchain Γ))

  -- two of them, taken apart and put together
  apart : {P Q : SProp 𝓤} (Γ Δ : List (Item 𝓤)) → P ≡ chain Γ → Q ≡ chain Δ → ent 𝓤 (sep 𝓤 P Q) (⋆ 𝓛 (Γ ++ Δ))
  apart Γ Δ e e' = subst (λ (X : SProp 𝓤 × SProp 𝓤). ent 𝓤 (sep 𝓤 X.0 X.1) (⋆ 𝓛 (Γ ++ Δ))) (λ i. (sym e i, sym e' i))
      (via 𝓤 (sep 𝓤 (⋆ 𝓛 Γ) (⋆ 𝓛 Δ)) (mono∗ 𝓤 (unchain Γ) (unchain Δ)) (++⊢ 𝓛 Γ Δ))

  together : {P Q : SProp 𝓤} (Γ Δ : List (Item 𝓤)) → P ≡ chain Γ → Q ≡ chain Δ → ent 𝓤 (⋆ 𝓛 (Γ ++ Δ)) (sep 𝓤 P Q)
  together Γ Δ e e' = subst (λ (X : SProp 𝓤 × SProp 𝓤). ent 𝓤 (⋆ 𝓛 (Γ ++ Δ)) (sep 𝓤 X.0 X.1)) (λ i. (sym e i, sym e' i))
      (via 𝓤 (sep 𝓤 (⋆ 𝓛 Γ) (⋆ 𝓛 Δ)) (⊢++ 𝓛 Γ Δ) (mono∗ 𝓤 (enchain Γ) (enchain Δ)))

  tokens-are : (n : ℕ) (κs : Lfts n) (qs : Shares n) → toks 𝓛 n κs qs ≡ chain (tokens n κs qs)
  tokens-are zero κs qs = refl
  tokens-are (suc n) κs qs = ap (sep 𝓤 (A.lft κs.0 qs.0)) (tokens-are n κs.1 qs.1)

  module _ {n : ℕ} (κs : Lfts n) where
    brought-are : (ps : List (Param n)) (a : Denots (rows κs ps)) → sem 𝓛 (owns (rows κs ps) a (vals κs ps a)) ≡ chain (brought κs ps a)
    brought-are [] a = refl
    brought-are (p ∷ ps) a = ap (sep 𝓤 (sem 𝓛 ((p.slot.row κs).own_val a.0 (p.spell κs a.0)))) (brought-are ps a.1)

    kept-are : (ps : List (Param n)) (a : Denots (rows κs ps)) (ws : Ends κs ps a)
        → sem 𝓛 (has_of κs (slots ps) (all yes (slots ps)) (stays ps) a ws (vals κs ps a)) ≡ chain (kept κs ps a ws)
    kept-are [] a ws = refl
    kept-are (p ∷ ps) a ws = ap (sep 𝓤 (sem 𝓛 (p.stay.has κs a.0 ws.0 (p.spell κs a.0)))) (kept-are ps a.1 ws.1)

-- ---- a thin function: how many lifetimes it has, its parameters, its result, its contract, its MIR, and the one function that it
-- asks, with the key by which the MIR calls that
pub record Thin : Type 3 where
  pub n : ℕ
  pub params : List (Param n)
  pub out : Data
  pub clauses : (M : Type 1) (𝓤 : Ura M) (𝓛 : Logic 𝓤) → (Memory → SProp 𝓤) → (Routine → Fun 𝓤)
      → Clauses 𝓤 (ended_of params out)
  pub code : Fn
  pub callee : ByValue
  pub key : Callee

module _ (F : Thin) where
  abbrev ended : Ended
  ended = ended_of F.params F.out

  module _ {M : Type 1} {𝓤 : Ura M} (𝓛 : Logic 𝓤) (at_mem : Memory → SProp 𝓤) (run : Routine → Fun 𝓤) where
    abbrev c : Clauses 𝓤 ended
    c = F.clauses M 𝓤 𝓛 at_mem run

    module _ (κs : Lfts F.n) (qs : Shares F.n) (a : Denots (rows κs F.params)) (y : (c κs a).ghost) where
      abbrev Return : Val → SProp 𝓤
      Return = (walk_of 𝓛 ended (stays F.params) c).post ((κs, qs, tt, a, vals κs F.params a), y)

      -- the end of a walk: what is left is the tokens and the parameters, at the last values ws, and the result is r
      pub ends : (ws : Ends κs F.params a) (r : F.out.row.Denot) → Is F.out.row r (F.out.val r ∷ [])
          → {φ : Type 0} → φ → (c κs a).ensures y r (at_exit ended κs a ws) ≡ fact 𝓤 φ
          → ent 𝓤 (⋆ 𝓛 (tokens 𝓛 F.n κs qs ++ kept 𝓛 κs F.params a ws)) (Return (F.out.val r))
      ends ws r is {φ} x e = via 𝓤 _
          (via 𝓤 (sep 𝓤 P (sep 𝓤 Q (sem 𝓛 (F.out.row.own_val r v))))
          (via 𝓤 (sep 𝓤 P Q) (together 𝓛 (tokens 𝓛 F.n κs qs) (kept 𝓛 κs F.params a ws)
          (tokens-are 𝓛 F.n κs qs) (kept-are 𝓛 κs F.params a ws))
          (mono_r 𝓤 P (beside 𝓤 Q (F.out.makes 𝓛 r v is)))) (beside 𝓤 _ (subst (ent 𝓤 (emp 𝓤)) (sym e) (fact_i 𝓤 φ (emp 𝓤) x))))
          (ends_at 𝓛 ended (stays F.params) c ((κs, qs, tt, a, vals κs F.params a), y) (F.out.val r) r ws (all_fit κs F.params a ws))
        where
          v : List Val
          v = F.out.val r ∷ []

          P : SProp 𝓤
          P = toks 𝓛 F.n κs qs

          Q : SProp 𝓤
          Q = sem 𝓛 (has_of κs (slots F.params) (all yes (slots F.params)) (stays F.params) a ws (vals κs F.params a))

  -- what its walk shows
  abbrev pub Walk : Type 2
  Walk = (M : Type 1) (𝓤 : Ura M) (𝓛 : Logic 𝓤) (at_mem : Memory → SProp 𝓤) (run : Routine → Fun 𝓤)
      (C : Calls 𝓤 𝓛.H) (Λ : Loops 𝓤 𝓛.H) → FmC 𝓤 𝓛.H 𝓛.laws C → Triple 𝓤 (C F.key) (promised F.callee 𝓛)
      → (κs : Lfts F.n) (qs : Shares F.n) (a : Denots (rows κs F.params)) (y : (c 𝓛 at_mem run κs a).ghost)
      → Are (rows κs F.params) (Ises (rows κs F.params)) a (vals κs F.params a)
      → Seq (Go {0}) 𝓛 (tokens 𝓛 F.n κs qs ++ brought 𝓛 κs F.params a)
      (prop (WpFn 𝓤 𝓛.H C Λ F.code (flat (rows κs F.params) (vals κs F.params a)) (Return 𝓛 at_mem run κs qs a y)))

  -- and what the walk gives: the function meets its contract. γ says what the MIR's calls mean, k is the function's own key, and r
  -- the callee's routine
  module _ {M : Type 1} {𝓤 : Ura M} (𝓛 : Logic 𝓤) (𝓜 : Model 𝓤 𝓛.H) (𝓡 : Running 𝓤 𝓛.H 𝓜)
      (γ : Bindings) (k : Callee) (r : Routine) where
    open 𝓛 use {H}

    pub thin : γ F.key ≡ r → Triple 𝓤 (𝓡.run r) (promised F.callee 𝓛)
        → Closed 𝓤 H (tables 𝓤 H 𝓜 𝓡 γ).C (tables 𝓤 H 𝓜 𝓡 γ).Λ k F.code → Walk
        → Meets 𝓛 ended.signature (𝓡.run (γ k))
        (closing 𝓛 ended (F.clauses M 𝓤 𝓛 𝓜.mem 𝓡.run))
    unfolding tables_of
    thin calls met closed walk =
        entered 𝓤 H (triple_of 𝓛 ended.signature (closing 𝓛 ended e)) C Λ k F.code closed
        (walk_Meets 𝓛 ended (stays ps) (all_go 𝓛 ps) e (WpFn 𝓤 H C Λ F.code)
        (WpFn-mono 𝓤 H 𝓛.laws 𝓣 F.code)
        (walked 𝓛 ended (stays ps) e (WpFn 𝓤 H C Λ F.code) (λ κs. spells κs ps) (λ κs. all_told κs ps)
        (λ κs qs bounds a y are. via 𝓤 _ (fst∗ 𝓤 _ ((e κs a).requires y))
        (via 𝓤 _ (apart 𝓛 (tokens 𝓛 F.n κs qs) (brought 𝓛 κs ps a)
        (tokens-are 𝓛 F.n κs qs) (brought-are 𝓛 κs ps a))
        (walk M 𝓤 𝓛 𝓜.mem 𝓡.run C Λ (fm_of 𝓤 H 𝓛.laws 𝓣)
        (cited 𝓤 H (promised F.callee 𝓛) 𝓜 𝓡 γ F.key r calls met) κs qs a y are).prf))))
      where
        ps : List (Param F.n)
        ps = F.params

        e : Clauses 𝓤 ended
        e = F.clauses M 𝓤 𝓛 𝓜.mem 𝓡.run

        C : Calls 𝓤 H
        C = (tables 𝓤 H 𝓜 𝓡 γ).C

        Λ : Loops 𝓤 H
        Λ = (tables 𝓤 H 𝓜 𝓡 γ).Λ

        𝓣 : Tables 𝓤 H
        𝓣 = tables_of 𝓤 H 𝓜 (tables 𝓤 H 𝓜 𝓡 γ)
