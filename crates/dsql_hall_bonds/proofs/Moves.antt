-- Each move keeps the rule. The passes that change are looked at by themselves, and what the others know stays true.
use Rattle.std.proofs.Common.{◌≡◌, ◌≢◌, ◌==◌, ℕ, zero, suc, List, [], ◌∷◌, ◌++◌, length, set, Option, Some, None, cond, refl, sym, ap, ◌∙◌, subst, ⊎_elim, eq-eqb, ne_eqb}
use mathlib.Core.Option.{some, some-ne-none, some-injective}
use lib.ListN.{get_elem?}
use Rattle.atomic_table.proofs.Lists.{at_set}
use Rattle.dsql_hall_bonds.specs.Work.{Work, find, without}
use Rattle.dsql_hall_bonds.specs.Passes.{Known, Keeping, Bound, TakingBack, Spent, KnowsOut, HasBond, IsTrueAt, KeepsBonds}
use Rattle.dsql_hall_bonds.proofs.Finding.{find_here, find_other, find_without_other}

-- Returns which pass has the bond on each connection, after a pass took over the one on this connection.
abbrev handed : ℕ → ℕ → (ℕ → ℕ) → ℕ → ℕ
handed conn pass holder other = cond (conn == other) pass (holder other)

-- The pass has the bond on the connection.
handed_here : (conn pass : ℕ) (holder : ℕ → ℕ) → handed conn pass holder conn ≡ pass
handed_here conn pass holder = ap (λ same. cond same pass (holder conn)) (eq-eqb conn conn refl)

-- The other bonds stay with their passes.
handed_other : (conn pass : ℕ) (holder : ℕ → ℕ) (other : ℕ)
    → conn ≢ other
    → handed conn pass holder other ≡ holder other
handed_other conn pass holder other apart = ap (λ same. cond same pass (holder other)) (ne_eqb conn other apart)

-- No work is both found and not found.
not_both : (found : Option Work) (work : Work) → found ≡ None → found ≡ Some work → ⊥
not_both found work none is = cc

-- What holds of a pass that changes, and of the others, holds of each pass.
at_changed : (P : ℕ → Known → Type 0) (passes : List Known) (by : ℕ) (after : Known)
    → P by after
    → ((pass : ℕ) (known : Known) → pass ≢ by → get_elem? passes pass ≡ some known → P pass known)
    → (pass : ℕ) (known : Known) → get_elem? (set passes by after) pass ≡ some known → P pass known
at_changed P passes by after here others pass known at =
    ⊎_elim
    (λ own. subst (λ p. P p known) (sym own.0) (subst (P by) own.1 here))
    (λ other. others pass known other.0 other.1)
    (at_set passes by pass after known at)

-- What holds of a new pass, and of those before it, holds of each pass.
at_added : (P : ℕ → Known → Type 0) (passes : List Known) (new : Known)
    → P (length passes) new
    → ((pass : ℕ) (known : Known) → get_elem? passes pass ≡ some known → P pass known)
    → (pass : ℕ) (known : Known) → get_elem? (passes ++ new ∷ []) pass ≡ some known → P pass known
at_added P [] new here others zero known at = subst (P 0) (some-injective new known at) here
at_added P [] new here others (suc pass) known at = absurd (some-ne-none known (sym at))
at_added P (first ∷ rest) new here others zero known at = others zero known at
at_added P (first ∷ rest) new here others (suc pass) known at =
    at_added (λ p. P (suc p)) rest new here (λ p k e. others (suc p) k e) pass known at

-- What a pass other than the keeper's knows stays true if its bond stays.
stays : (keeper : ℕ) (out after : List Work) (holder heir : ℕ → ℕ) (pass : ℕ) (known : Known)
    → pass ≢ keeper
    → ((work : Work) → HasBond out holder pass work → HasBond after heir pass work)
    → IsTrueAt keeper out holder pass known
    → IsTrueAt keeper after heir pass known
stays keeper out after holder heir pass (Keeping own) apart keeps true_before = absurd (apart true_before.is_keeper)
stays keeper out after holder heir pass (Bound work) apart keeps true_before = keeps work true_before
stays keeper out after holder heir pass (TakingBack own work) apart keeps true_before =
    absurd (apart true_before.0.is_keeper)
stays keeper out after holder heir pass Spent apart keeps true_before = tt

-- The first pass of a cell is the keeper's, and no work is out.
pub begins : KeepsBonds (Keeping [] ∷ [])
begins = record { keeper = 0; out = []; holder = λ _. 0; is_true = at_added P [] (Keeping []) here nobody }
  where
    P : ℕ → Known → Type 0
    P = IsTrueAt 0 [] (λ _. 0)

    here : KnowsOut 0 [] 0 []
    here = record { is_keeper = refl; all = refl }

    nobody : (pass : ℕ) (known : Known) → get_elem? [] pass ≡ some known → P pass known
    nobody pass known at = absurd (some-ne-none known (sym at))

-- The keeper may make a bond of work on a connection of which no work is out.
pub makes : (passes : List Known) (by : ℕ) (out : List Work) (work : Work)
    → find work.conn out ≡ None
    → KeepsBonds passes
    → get_elem? passes by ≡ some (Keeping out)
    → KeepsBonds (set passes by (Keeping (work ∷ out)) ++ Bound work ∷ [])
makes passes by out work free h at =
    record { keeper = h.keeper; out = work ∷ out; holder = heir; is_true = at_added P left (Bound work) bond kept }
  where
    left : List Known
    left = set passes by (Keeping (work ∷ out))

    heir : ℕ → ℕ
    heir = handed work.conn (length left) h.holder

    P : ℕ → Known → Type 0
    P = IsTrueAt h.keeper (work ∷ out) heir

    mine : KnowsOut h.keeper h.out by out
    mine = h.is_true by (Keeping out) at

    keeper : KnowsOut h.keeper (work ∷ out) by (work ∷ out)
    keeper = record { is_keeper = mine.is_keeper; all = refl }

    bond : HasBond (work ∷ out) heir (length left) work
    bond = record { alone = handed_here work.conn (length left) h.holder; is_out = find_here work out }

    keeps : (pass : ℕ) (w : Work) → HasBond h.out h.holder pass w → HasBond (work ∷ out) heir pass w
    keeps pass w has =
        let found : find w.conn out ≡ Some w = ap (find w.conn) mine.all ∙ has.is_out in
        let apart : work.conn ≢ w.conn =
        λ same. not_both (find w.conn out) w (ap (λ c. find c out) (sym same) ∙ free) found in record {
          alone = handed_other work.conn (length left) h.holder w.conn apart ∙ has.alone;
          is_out = find_other work out w.conn apart ∙ found;
        }

    others : (pass : ℕ) (known : Known) → pass ≢ by → get_elem? passes pass ≡ some known → P pass known
    others pass known apart there =
        let no_keeper : pass ≢ h.keeper = λ same. apart (same ∙ sym mine.is_keeper) in
        stays h.keeper h.out (work ∷ out) h.holder heir pass known no_keeper (keeps pass) (h.is_true pass known there)

    kept : (pass : ℕ) (known : Known) → get_elem? left pass ≡ some known → P pass known
    kept = at_changed P passes by (Keeping (work ∷ out)) keeper others

-- The keeper may take back each bond.
pub takes_back : (passes : List Known) (by : ℕ) (out : List Work) (other : ℕ) (work : Work)
    → KeepsBonds passes
    → get_elem? passes by ≡ some (Keeping out)
    → other ≢ by
    → get_elem? (set passes by (TakingBack out work)) other ≡ some (Bound work)
    → KeepsBonds (set (set passes by (TakingBack out work)) other Spent)
takes_back passes by out other work h at apart there =
    record { keeper = h.keeper; out = h.out; holder = heir; is_true = at_changed P taken other Spent tt kept }
  where
    taken : List Known
    taken = set passes by (TakingBack out work)

    heir : ℕ → ℕ
    heir = handed work.conn by h.holder

    P : ℕ → Known → Type 0
    P = IsTrueAt h.keeper h.out heir

    mine : KnowsOut h.keeper h.out by out
    mine = h.is_true by (Keeping out) at

    theirs : HasBond h.out h.holder other work
    theirs =
        ⊎_elim
        (λ own. absurd (apart own.0))
        (λ it. h.is_true other (Bound work) it.1)
        (at_set passes by other (TakingBack out work) (Bound work) there)

    both : P by (TakingBack out work)
    both = (mine, record { alone = handed_here work.conn by h.holder; is_out = theirs.is_out })

    keeps : (pass : ℕ) → pass ≢ other → (w : Work) → HasBond h.out h.holder pass w → HasBond h.out heir pass w
    keeps pass off w has =
        let differ : work.conn ≢ w.conn = λ same. off (sym has.alone ∙ ap h.holder (sym same) ∙ theirs.alone) in
        record { alone = handed_other work.conn by h.holder w.conn differ ∙ has.alone; is_out = has.is_out }

    others : (pass : ℕ) (known : Known) → pass ≢ by → get_elem? passes pass ≡ some known → pass ≢ other → P pass known
    others pass known besides here off =
        let no_keeper : pass ≢ h.keeper = λ same. besides (same ∙ sym mine.is_keeper) in
        stays h.keeper h.out h.out h.holder heir pass known no_keeper (keeps pass off) (h.is_true pass known here)

    kept : (pass : ℕ) (known : Known) → pass ≢ other → get_elem? taken pass ≡ some known → P pass known
    kept pass known off here =
        let Q : ℕ → Known → Type 0 = λ p k. p ≢ other → P p k in
        at_changed Q passes by (TakingBack out work) (λ _. both) others pass known here off

-- The work of a bond that the keeper took back is out.
pub was_out : (passes : List Known) (by : ℕ) (out : List Work) (work : Work)
    → KeepsBonds passes
    → get_elem? passes by ≡ some (TakingBack out work)
    → find work.conn out ≡ Some work
was_out passes by out work h at =
    let mine : KnowsOut h.keeper h.out by out × HasBond h.out h.holder by work =
    h.is_true by (TakingBack out work) at in
    ap (find work.conn) mine.0.all ∙ mine.1.is_out

-- The keeper may strike off the work of a bond that it took back.
pub strikes_off : (passes : List Known) (by : ℕ) (out : List Work) (work : Work)
    → KeepsBonds passes
    → get_elem? passes by ≡ some (TakingBack out work)
    → KeepsBonds (set passes by (Keeping (without work.conn out)))
strikes_off passes by out work h at =
    record { keeper = h.keeper; out = after; holder = h.holder; is_true = kept }
  where
    after : List Work
    after = without work.conn out

    P : ℕ → Known → Type 0
    P = IsTrueAt h.keeper after h.holder

    mine : KnowsOut h.keeper h.out by out × HasBond h.out h.holder by work
    mine = h.is_true by (TakingBack out work) at

    keeper : KnowsOut h.keeper after by after
    keeper = record { is_keeper = mine.0.is_keeper; all = refl }

    keeps : (pass : ℕ) → pass ≢ by → (w : Work) → HasBond h.out h.holder pass w → HasBond after h.holder pass w
    keeps pass apart w has =
        let differ : work.conn ≢ w.conn = λ same. apart (sym has.alone ∙ ap h.holder (sym same) ∙ mine.1.alone) in
        let same_found = find_without_other work.conn w.conn out differ in
        record { alone = has.alone; is_out = same_found ∙ ap (find w.conn) mine.0.all ∙ has.is_out }

    others : (pass : ℕ) (known : Known) → pass ≢ by → get_elem? passes pass ≡ some known → P pass known
    others pass known apart there =
        let no_keeper : pass ≢ h.keeper = λ same. apart (same ∙ sym mine.0.is_keeper) in
        let before = h.is_true pass known there in
        stays h.keeper h.out after h.holder h.holder pass known no_keeper (keeps pass apart) before

    kept : (pass : ℕ) (known : Known) → get_elem? (set passes by (Keeping after)) pass ≡ some known → P pass known
    kept = at_changed P passes by (Keeping after) keeper others
