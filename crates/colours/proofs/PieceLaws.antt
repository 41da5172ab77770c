-- A good placing without contexts sends pieces to pieces, back and forth; so their sizes are kept.
use Rattle.std.proofs.Common.{◌≡◌, ℕ, ◌⊎◌, List, length, sym, refl, ◌∙◌, subst, inl, inr}
use mathlib.Core.List.Memᴰ
use Rattle.hyperlmntal.specs.Link.{◌∈◌}
use Rattle.placing.specs.Net.{Net, Range, NormalSheet}
use Rattle.placing.specs.Placing.{Placing, cell_at, atom_target, link_target, Taken, Good}
use Rattle.placing.proofs.Standing.{place-link}
use Rattle.network.specs.Reach.{stay, move}
use Rattle.network.specs.Sums.{HowMany}
use Rattle.network.proofs.Reaching.{reach-cast}
use Rattle.network.proofs.Sums.{sum-across}
use Rattle.colours.specs.Pieces.{Share, OnePiece, Sizes}
use Rattle.colours.proofs.Bijection.{all-taken, atoms-across, link-one}

module _ (S F : Net) (NS : NormalSheet S) (NF : NormalSheet F) (p : Placing) (g : Good S F p) where
  share-to : (i j : ℕ) → Share F i j → Share S (atom_target p i) (atom_target p j)
  share-to i j s = record { first-atom = g.sending.to-atoms i s.first-atom; second-atom = g.sending.to-atoms j s.second-atom; link = link_target p s.link; first = held i s.first-atom s.first; second = held j s.second-atom s.second }
    where
      held : (h : ℕ) → Range (length F.atoms) h → s.link ∈ (cell_at F.atoms h).1 → link_target p s.link ∈ (cell_at S.atoms (atom_target p h)).1
      held h r m = subst (λ (l : List ℕ). link_target p s.link ∈ l) (g.across h r).places (Memᴰ.map (link_target p) m)

  share_back : (i j : ℕ) → Range (length F.atoms) i → Range (length F.atoms) j → Share S (atom_target p i) (atom_target p j) → Share F i j
  share_back i j h k s = at (held i h s.first) (held j k s.second)
    where
      held : (a : ℕ) → Range (length F.atoms) a → s.link ∈ (cell_at S.atoms (atom_target p a)).1 → (x : ℕ) × (x ∈ (cell_at F.atoms a).1) × (link_target p x ≡ s.link)
      held a r m = Memᴰ.of_map (link_target p) (cell_at F.atoms a).1 (subst (λ (l : List ℕ). s.link ∈ l) (sym (g.across a r).places) m)

      at : (x : ℕ) × (x ∈ (cell_at F.atoms i).1) × (link_target p x ≡ s.link) → (z : ℕ) × (z ∈ (cell_at F.atoms j).1) × (link_target p z ≡ s.link) → Share F i j
      at (x, m, e) (z, n, q) =
          let o : z ≡ x = link-one S F NS NF p g z x (place-link F NF.normal j z k n) (place-link F NF.normal i x h m) (q ∙ sym e) in
          record { first-atom = h; second-atom = k; link = x; first = m; second = subst (λ (w : ℕ). w ∈ (cell_at F.atoms j).1) o n }

  piece-to : {i j : ℕ} → OnePiece F i j → OnePiece S (atom_target p i) (atom_target p j)
  piece-to stay = stay
  piece-to (move {x = i} {y = h} s r) = move (share-to i h s) (piece-to r)

  piece_back : {a b : ℕ} → OnePiece S a b → (i j : ℕ) → Range (length F.atoms) i → Range (length F.atoms) j → atom_target p i ≡ a → atom_target p j ≡ b → OnePiece F i j
  piece_back stay i j h k e q = reach-cast (Share F) (g.sending.different i j h k (e ∙ sym q)) stay
  piece_back (move {x = a} {y = c} s r) i j h k e q = move (share_back i t.by h t.of-figure (subst (λ (w : ℕ). Share S (atom_target p i) w) (sym t.there) (subst (λ (w : ℕ). Share S w c) (sym e) s))) (piece_back r t.by j t.of-figure k t.there q)
    where
      t : Taken S F p c
      t = all-taken S F NS NF p g c s.second-atom

  pub sizes-kept : (a b : ℕ → ℕ) → Sizes F a → Sizes S b → (i : ℕ) → Range (length F.atoms) i → a i ≡ b (atom_target p i)
  sizes-kept a b here there i h = sym u.in_all ∙ sum-across (length F.atoms) (length S.atoms) (atom_target p) (atoms-across S F NS NF p g) u.flag v.flag (λ j k. go j k (u.says j k) (v.says (atom_target p j) (g.sending.to-atoms j k))) ∙ v.in_all
    where
      u : HowMany (OnePiece F i) (length F.atoms) (a i)
      u = here i h

      v : HowMany (OnePiece S (atom_target p i)) (length S.atoms) (b (atom_target p i))
      v = there (atom_target p i) (g.sending.to-atoms i h)

      go : (j : ℕ) → Range (length F.atoms) j → (OnePiece F i j × (u.flag j ≡ 1)) ⊎ ((¬ OnePiece F i j) × (u.flag j ≡ 0))
          → (OnePiece S (atom_target p i) (atom_target p j) × (v.flag (atom_target p j) ≡ 1)) ⊎ ((¬ OnePiece S (atom_target p i) (atom_target p j)) × (v.flag (atom_target p j) ≡ 0)) → u.flag j ≡ v.flag (atom_target p j)
      go j k (inl c) (inl d) = c.1 ∙ sym d.1
      go j k (inl c) (inr d) = absurd (d.0 (piece-to c.0))
      go j k (inr c) (inl d) = absurd (c.0 (piece_back d.0 i j h k refl refl))
      go j k (inr c) (inr d) = c.1 ∙ sym d.1
