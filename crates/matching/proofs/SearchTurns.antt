-- One turn of the search's loop, on the arrays that the code holds.
use Prim.Native.Nat.{ℕ, zero, suc, ◌+◌, ◌-◌, ◌≤◌, ◌<◌}
use mathlib.Core.Path.{◌≡◌, refl, ap, ap₂, sym, ◌∙◌, subst}
use mathlib.Core.Logic.{◌≢◌, ◌⊎◌, inl, inr}
use mathlib.Core.List.{List, [], ◌∷◌, ◌++◌, append_assoc}
use mathlib.Core.Bool.{true, false}
use mathlib.Core.Option.{Option, none, some}
use native.Mathlib.Decide.{ℕ_discrete, dec_lt}
use native.Mathlib.Numerals.{add-one}
use native.Mathlib.Omega.{arith}
use lib.ListN.{length, get_or, take, set, replicate, length-set}
use lib.Seq.{length-take-le, take-suc-set, get_or-set_same, get_or-set_other, get_or-append_seam}
use Rattle.rows.specs.Limits.{sheet_atom_limit}
use Rattle.rows.specs.declared.Sheet as form
use Rattle.placing.specs.Net.{Net, Range}
use Rattle.placing.specs.Placing.{atom_target, number_at}
use Rattle.placing.proofs.FirstLaws.{Tried}
use Rattle.network.specs.NetIn.{net_in}
use Rattle.network.specs.Begun.{Begun, test_after, least_after}
use Rattle.network.proofs.NetIn.{atoms-length}
use Rattle.network.specs.Ready.{Ready, AtomsIn}
use Rattle.matching.specs.Search.{KeepsIn, behind, search_from, found_list, found_in, Onward}
use Rattle.candidates.specs.Words.{digit}
use Rattle.candidates.specs.Tables.{AtomIn, MayAtom}
use Rattle.candidates.specs.Forced.{Only}
use Rattle.symmetry.specs.Follows.{Follows, Excuses}
use Rattle.matching.specs.declared.search.Found.{Found}
use Rattle.matching.proofs.SearchLaws.{nothing-found, none_found, some-found, none-begun, begun-none, rest_bounds, tried-start, tried-next, tried-end, tried-found}
use Rattle.rows.proofs.Padding.{get_d-filled}

-- a candidate that is known to fail, or is not in the sets
abbrev pub Skipped : List ℕ → List ℕ → ℕ → ℕ → Type 0
Skipped atoms failed k t = (get_or failed t 0 ≡ 1) ⊎ (¬ AtomIn atoms k t)

-- one that is known to fail, and those behind it up to r, which are not in the sets
pub skip-failed : (atoms failed : List ℕ) (k t r : ℕ) → get_or failed t 0 ≡ 1 → ((u : ℕ) → t + 1 ≤ u → u < r → ¬ AtomIn atoms k u) → (u : ℕ) → t ≤ u → u < r → Skipped atoms failed k u
skip-failed atoms failed k t r e f u h l = go (ℕ_discrete u t)
  where
    go : Dec (u ≡ t) → Skipped atoms failed k u
    go (yes q) = inl (ap (λ (i : ℕ). get_or failed i 0) q ∙ e)
    go (no q) = inr (f u (omega (arith, h, q)) l)

-- What the loop keeps: sheet atoms 1 to t were tried in vain, and those with a 1 fail.
pub record Tries (sheet figure : form.Sheet) (pre failed : List ℕ) (work t : ℕ) : Type 0 where
  pub tried : Tried (test_after (net_in sheet) (net_in figure) pre) (suc t) (rest_bounds (net_in sheet) (net_in figure) pre)
  pub failures : (u : ℕ) → get_or failed u 0 ≡ 1 → ¬ Begun (net_in sheet) (net_in figure) (pre ++ (suc u ∷ []))
  pub worked : 1 ≤ work

pub tries-same : {sheet figure : form.Sheet} {pre failed failed' : List ℕ} {work work' t : ℕ} → failed' ≡ failed → work' ≡ work
    → Tries sheet figure pre failed work t → Tries sheet figure pre failed' work' t
tries-same {sheet} {figure} {pre} {failed} {failed'} {work} {work'} {t} e f u = subst (λ (w : ℕ). Tries sheet figure pre failed' w t) (sym f) (subst (λ (l : List ℕ). Tries sheet figure pre l work t) (sym e) u)

module _ (sheet figure : form.Sheet) (ready : Ready sheet figure) (chosen : List ℕ) (k : ℕ) (few : k ≤ figure.atom_count) (atoms : AtomsIn sheet k chosen) where
  abbrev S : Net
  S = net_in sheet

  abbrev F : Net
  F = net_in figure

  abbrev pre : List ℕ
  pre = take k chosen

  pub pre-length : length pre ≡ k
  pre-length = length-take-le k chosen (omega (arith, atoms.room, ready.figure-fit.atom-count))

  figure-atoms : length F.atoms ≡ figure.atom_count
  figure-atoms = atoms-length figure ready.figure-fit

  sheet-atoms : length S.atoms ≡ sheet.atom_count
  sheet-atoms = atoms-length sheet ready.sheet-fit

  pub nothing-begun : ¬ Begun S F pre → (r : Found) → r.ok ≡ false → found_in sheet figure r ≡ search_from S F pre
  nothing-begun n r h = nothing-found sheet figure r h ∙ sym (begun-none S F pre (omega (arith, pre-length, figure-atoms)) n)

  module _ (unfinished : k < figure.atom_count) where
    small : length pre < length F.atoms
    small = omega (arith, pre-length, figure-atoms)

    pub tries-start : (failed : List ℕ) → failed ≡ replicate sheet_atom_limit 0 → Tries sheet figure pre failed 1 0
    tries-start failed e = record {
      tried = tried-start S F pre small;
      failures = λ u h b. absurd (let z : ◌≡◌ {A = ℕ} 0 1 = sym (ap (λ (l : List ℕ). get_or l u 0) e ∙ get_d-filled {A = ℕ} 0 sheet_atom_limit u) ∙ h in omega arith);
      worked = omega arith;
    }

    pub tries-end : (failed : List ℕ) (work t : ℕ) → Tries sheet figure pre failed work t → sheet.atom_count ≤ t → (r : Found) → r.ok ≡ false → found_in sheet figure r ≡ search_from S F pre
    tries-end failed work t u h r k =
        nothing-found sheet figure r k ∙ sym (tried-end S F pre small (λ x m q w. u.tried x m (omega (arith, q, h, sheet-atoms)) w))

    -- those up to e were tried in vain too
    up_to : (t e : ℕ) → t ≤ e → Tried (test_after S F pre) (suc t) (rest_bounds S F pre) → ((u : ℕ) → t ≤ u → u < e → ¬ Begun S F (pre ++ (suc u ∷ []))) → Tried (test_after S F pre) (suc e) (rest_bounds S F pre)
    up_to t zero h w vain = λ x m q. w x m (omega (arith, q))
    up_to t (suc e) h w vain = go (dec_lt t (suc e)) (λ q. up_to t e (omega (arith, q)) w (λ u a b. vain u a (omega (arith, b))))
      where
        go : Dec (t < suc e) → (t < suc e → Tried (test_after S F pre) (suc e) (rest_bounds S F pre)) → Tried (test_after S F pre) (suc (suc e)) (rest_bounds S F pre)
        go (yes q) f = tried-next S F pre small (suc e) (f q) (vain e (omega (arith, q)) (omega arith))
        go (no q) f = λ x m l. w x m (omega (arith, q, h, l))

    -- the sets keep a sheet atom with which something begins
    kept : (a l : List ℕ) → KeepsIn sheet figure pre a l → (t : ℕ) → Begun S F (pre ++ (suc t ∷ [])) → AtomIn a k t
    kept a l keeps t b = sym place ∙ marked
      where
        split : b.0.atoms_to ≡ pre ++ (suc t ∷ b.2.0)
        split = b.2.1 ∙ append_assoc pre (suc t ∷ []) b.2.0

        marked : MayAtom a (k + 1) (atom_target b.0 (k + 1))
        marked = (keeps b.0 b.1 ((suc t ∷ b.2.0), split)).atoms (k + 1) (omega arith, omega (arith, figure-atoms))

        at : atom_target b.0 (k + 1) ≡ suc t
        at = ap (λ (l : List ℕ). number_at l (k + 1)) split ∙ ap (λ (i : ℕ). get_or (pre ++ (suc t ∷ b.2.0)) i 0) (let q : k + 1 - 1 ≡ length pre = omega (arith, pre-length) in q) ∙ get_or-append_seam pre (suc t) b.2.0 0

        place : digit (get_or a (k + 1 - 1) 0) (atom_target b.0 (k + 1) - 1) ≡ digit (get_or a k 0) t
        place = ap₂ (λ (i j : ℕ). digit (get_or a i 0) j) (let q : k + 1 - 1 ≡ k = omega arith in q) (ap (λ (i : ℕ). i - 1) at ∙ (let q : suc t - 1 ≡ t = omega arith in q))

    -- the choice of a sheet atom, as the code writes it
    next-taken : (t : ℕ) → take (k + 1) (set chosen k t) ≡ pre ++ (t ∷ [])
    next-taken t = ap (λ (i : ℕ). take i (set chosen k t)) (add-one k) ∙ take-suc-set chosen k t (omega (arith, atoms.room, ready.figure-fit.atom-count))

    next-within : (t : ℕ) → Range sheet.atom_count t → AtomsIn sheet (k + 1) (set chosen k t)
    next-within t q = record { room = length-set chosen _ _ ∙ atoms.room; within = λ i l. go i l (ℕ_discrete i k) }
      where
        go : (i : ℕ) → i < k + 1 → Dec (i ≡ k) → Range sheet.atom_count (get_or (set chosen k t) i 0)
        go i l (yes e) = subst (Range sheet.atom_count) (sym (ap (λ (j : ℕ). get_or (set chosen k t) j 0) e ∙ get_or-set_same chosen k t 0 (omega (arith, atoms.room, ready.figure-fit.atom-count)))) q
        go i l (no e) = subst (Range sheet.atom_count) (sym (get_or-set_other chosen k i t 0 e)) (atoms.within i (omega (arith, e)))

    -- A figure atom that has one candidate goes there.
    module _ (a l : List ℕ) (keeps : KeepsIn sheet figure pre a l) (t : ℕ) (only : Only a k sheet.atom_count t) where
      elsewhere : (u : ℕ) → u ≢ t → ¬ Begun S F (pre ++ (suc u ∷ []))
      elsewhere u other b = other (only.2 u (kept a l keeps u b))

      same_after : (o : Option (List ℕ)) → least_after S F (pre ++ (suc t ∷ [])) ≡ o → search_from S F (pre ++ (suc t ∷ [])) ≡ search_from S F pre
      same_after (some l) e =
          tried-found S F pre small (suc t) (omega (arith, only.0, sheet-atoms)) (up_to 0 t (omega arith) (tried-start S F pre small) (λ u z h. elsewhere u (λ q. absurd (omega (arith, q))))) l e
      same_after none e = ap (behind (pre ++ (suc t ∷ []))) e ∙ sym (tried-end S F pre small (subst (λ (i : ℕ). Tried (test_after S F pre) (suc i) (rest_bounds S F pre)) (sym sheet-atoms) (up_to 0 sheet.atom_count (omega arith) (tried-start S F pre small) (λ u z h. nowhere u (ℕ_discrete u t)))))
        where
          nowhere : (u : ℕ) → Dec (u ≡ t) → ¬ Begun S F (pre ++ (suc u ∷ []))
          nowhere u (yes q) = subst (λ (i : ℕ). ¬ Begun S F (pre ++ (suc i ∷ []))) (sym q) (none-begun S F (pre ++ (suc t ∷ [])) e)
          nowhere u (no q) = elsewhere u q

      at : take (k + 1) (set chosen k (t + 1)) ≡ pre ++ (suc t ∷ [])
      at = next-taken (t + 1) ∙ ap (λ (i : ℕ). pre ++ (i ∷ [])) (add-one t)

      pub forced-onward : Onward sheet figure a l k chosen (k + 1) (set chosen k (t + 1))
      forced-onward = record {
        atoms-in = next-within (t + 1) (omega arith, omega (arith, only.0));
        keeps = λ p g s. keeps p g ((suc t ∷ s.0), s.1 ∙ ap (λ (m : List ℕ). m ++ s.0) at ∙ append_assoc pre (suc t ∷ []) s.0);
        same = ap (search_from S F) at ∙ same_after (least_after S F (pre ++ (suc t ∷ []))) refl;
      }

    -- Candidates from t on that are skipped.
    pub tries-skip : (failed : List ℕ) (work t : ℕ) → Tries sheet figure pre failed work t → (a l : List ℕ) → KeepsIn sheet figure pre a l → (r : ℕ) → t ≤ r → ((v : ℕ) → t ≤ v → v < r → Skipped a failed k v)
        → Tries sheet figure pre failed work r
    tries-skip failed work t u a l keeps r h s = record { tried = up_to t r h u.tried (λ v p q. go v (s v p q)); failures = u.failures; worked = u.worked }
      where
        go : (v : ℕ) → Skipped a failed k v → ¬ Begun S F (pre ++ (suc v ∷ []))
        go v (inl e) = u.failures v e
        go v (inr e) = λ b. e (kept a l keeps v b)

    module _ (failed : List ℕ) (work t : ℕ) (u : Tries sheet figure pre failed work t) (h : t < sheet.atom_count) where
      more : ¬ Begun S F (pre ++ (suc t ∷ [])) → Tried (test_after S F pre) (suc (t + 1)) (rest_bounds S F pre)
      more n = subst (λ (i : ℕ). Tried (test_after S F pre) (suc i) (rest_bounds S F pre)) (sym (add-one t)) (tried-next S F pre small (suc t) u.tried n)

      pub next-begin : take (k + 1) (set chosen k (t + 1)) ≡ pre ++ (suc t ∷ [])
      next-begin = next-taken (t + 1) ∙ ap (λ (i : ℕ). pre ++ (i ∷ [])) (add-one t)

      pub next-atoms : AtomsIn sheet (k + 1) (set chosen k (t + 1))
      next-atoms = next-within (t + 1) (omega arith, omega arith)

      module _ (r : Found) (e : found_in sheet figure r ≡ search_from S F (take (k + 1) (set chosen k (t + 1)))) where
        found-next : found_in sheet figure r ≡ search_from S F (pre ++ (suc t ∷ []))
        found-next = e ∙ ap (search_from S F) next-begin

        pub tries-hit : r.ok ≡ true → found_in sheet figure r ≡ search_from S F pre
        tries-hit q =
            let l = some-found (found_list sheet figure r) r.ok (pre ++ (suc t ∷ [])) (least_after S F (pre ++ (suc t ∷ []))) found-next q in
            found-next ∙ tried-found S F pre small (suc t) (omega (arith, sheet-atoms)) u.tried l.0 l.1

        pub tries-miss : r.ok ≡ false → (marked : List ℕ) → Excuses sheet pre t failed marked → (spent : ℕ) → 1 ≤ spent → Tries sheet figure pre marked spent (t + 1)
        tries-miss q marked excuses spent w = record { tried = more n; failures = λ v c. go v (excuses v c); worked = w }
          where
            n : ¬ Begun S F (pre ++ (suc t ∷ []))
            n = none-begun S F (pre ++ (suc t ∷ [])) (none_found (found_list sheet figure r) r.ok (pre ++ (suc t ∷ [])) (least_after S F (pre ++ (suc t ∷ []))) found-next q)

            go : (v : ℕ) → (get_or failed v 0 ≡ 1) ⊎ Follows S pre (suc t) (suc v) → ¬ Begun S F (pre ++ (suc v ∷ []))
            go v (inl c) = u.failures v c
            go v (inr f) = λ b. n (f ready.sheet-normal F ready.figure-normal b)
