-- The passes that cut: what was taken so far, and then what is left, cut.
use Rattle.std.proofs.Common.{◌≡◌, ℕ, ◌<◌, Bool, true, false, List, [], ◌∷◌, ◌++◌, ap, sym, ◌∙◌, cond}
use Rattle.std.proofs.lemmas.List.{append-nil}
use Rattle.jl_rows.specs.Written.{StreamOptions}
use Rattle.jl_rows.specs.Decoder.{size_of}
use Rattle.jl_sym_laws.specs.Composing.{AreBefore}
use Rattle.jl_sym_laws.specs.Cutting.{is_id_in, is_need_in, cut_writes, cut_demands}
use Rattle.jl_sym_laws.specs.Summaries as sums
use Rattle.jl_sym.specs.declared.demand.Demand.{Demand}
use Rattle.jl_sym.specs.declared.demand.Need.TheVariants as needs
use Rattle.jl_sym.specs.declared.summary.Write.{Write}
use Rattle.jl_sym.specs.Held.{AreTexts}
use Rattle.jl_sym.specs.Seen.{id_seen, need_seen, write_seen, demand_seen, demands_seen}
use Rattle.jl_compact.specs.Parts.{writes_seen}
use Rattle.jl_compact.proofs.Lists.{one_by_one, writes_push, demands_push, texts_more, texts_after, no_texts}

module _ (bytes : List ℕ) (o : StreamOptions) (all : List Write) where
  pub record Cutting (inside rest : List Write) : Type 0 where
    pub cut : cut_writes o (writes_seen bytes all) ≡ writes_seen bytes inside ++ cut_writes o (writes_seen bytes rest)
    pub texts : AreTexts bytes inside
    pub later : AreTexts bytes rest

  pub cutting_start : (inside : List Write) → inside ≡ [] → AreTexts bytes all → Cutting inside all
  cutting_start inside none texts = record {
    cut = ap (λ (l : List Write). writes_seen bytes l ++ cut_writes o (writes_seen bytes all)) (sym none);
    texts = no_texts bytes inside none;
    later = texts;
  }

  cut_on : (w : Write) (vs : List Write) (b : Bool) → is_id_in (size_of o w.table) (id_seen w.id) ≡ b
      → cut_writes o (writes_seen bytes (w ∷ vs)) ≡ cond b (write_seen bytes w ∷ cut_writes o (writes_seen bytes vs)) (cut_writes o (writes_seen bytes vs))
  unfolding cut_writes
  cut_on w vs b e = ap (λ (x : Bool). cond x (write_seen bytes w ∷ cut_writes o (writes_seen bytes vs)) (cut_writes o (writes_seen bytes vs))) e

  pub cutting_stays : (inside inside' : List Write) (w : Write) (vs rest : List Write) → rest ≡ w ∷ vs → inside' ≡ inside ++ (w ∷ []) → is_id_in (size_of o w.table) (id_seen w.id) ≡ true → Cutting inside rest → Cutting inside' vs
  cutting_stays inside inside' w vs rest e new is p = record {
    cut =
        p.cut ∙ ap (λ (l : List Write). writes_seen bytes inside ++ cut_writes o (writes_seen bytes l)) e
        ∙ ap (λ (l : List sums.Written). writes_seen bytes inside ++ l) (cut_on w vs true is)
        ∙ one_by_one (writes_seen bytes inside) (write_seen bytes w) (cut_writes o (writes_seen bytes vs))
        ∙ ap (λ (l : List sums.Written). l ++ cut_writes o (writes_seen bytes vs)) (sym (ap (writes_seen bytes) new ∙ writes_push bytes inside w));
    texts = texts_more bytes inside inside' w vs rest e new p.texts p.later;
    later = texts_after bytes w vs rest e p.later;
  }

  pub cutting_goes : (inside : List Write) (w : Write) (vs rest : List Write) → rest ≡ w ∷ vs → is_id_in (size_of o w.table) (id_seen w.id) ≡ false → Cutting inside rest → Cutting inside vs
  cutting_goes inside w vs rest e is p = record {
    cut =
        p.cut ∙ ap (λ (l : List Write). writes_seen bytes inside ++ cut_writes o (writes_seen bytes l)) e
        ∙ ap (λ (l : List sums.Written). writes_seen bytes inside ++ l) (cut_on w vs false is);
    texts = p.texts;
    later = texts_after bytes w vs rest e p.later;
  }

  pub cutting_end : (inside rest : List Write) → rest ≡ [] → Cutting inside rest → writes_seen bytes inside ≡ cut_writes o (writes_seen bytes all)
  unfolding cut_writes
  cutting_end inside rest e p =
      sym (p.cut ∙ ap (λ (l : List Write). writes_seen bytes inside ++ cut_writes o (writes_seen bytes l)) e ∙ append-nil (writes_seen bytes inside))

module _ (o : StreamOptions) (all : List Demand) where
  abbrev pub Until : List Demand → List Demand → Type 0
  Until inside rest = cut_demands o (demands_seen all) ≡ demands_seen inside ++ cut_demands o (demands_seen rest)

  pub until_start : (inside : List Demand) → inside ≡ [] → Until inside all
  until_start inside none = ap (λ (l : List Demand). demands_seen l ++ cut_demands o (demands_seen all)) (sym none)

  until_on : (d : Demand) (es : List Demand) (b : Bool) → is_need_in o (need_seen d.need) ≡ b
      → cut_demands o (demands_seen (d ∷ es)) ≡ cond b (demand_seen d ∷ cut_demands o (demands_seen es)) (record (demand_seen d) { need = sums.Never } ∷ [])
  unfolding cut_demands
  until_on d es b e = ap (λ (x : Bool). cond x (demand_seen d ∷ cut_demands o (demands_seen es)) (record (demand_seen d) { need = sums.Never } ∷ [])) e

  pub until_stays : (inside inside' : List Demand) (d : Demand) (es rest : List Demand) → rest ≡ d ∷ es → inside' ≡ inside ++ (d ∷ []) → is_need_in o (need_seen d.need) ≡ true → Until inside rest → Until inside' es
  until_stays inside inside' d es rest e new is p =
      p ∙ ap (λ (l : List Demand). demands_seen inside ++ cut_demands o (demands_seen l)) e
      ∙ ap (λ (l : List sums.Demand). demands_seen inside ++ l) (until_on d es true is)
      ∙ one_by_one (demands_seen inside) (demand_seen d) (cut_demands o (demands_seen es))
      ∙ ap (λ (l : List sums.Demand). l ++ cut_demands o (demands_seen es)) (sym (ap demands_seen new ∙ demands_push inside d))

  -- one that is never met is the last one
  pub until_never : (inside inside' : List Demand) (d : Demand) (es rest : List Demand) → rest ≡ d ∷ es → inside' ≡ inside ++ (record d { need = needs.Never } ∷ []) → is_need_in o (need_seen d.need) ≡ false → Until inside rest
      → demands_seen inside' ≡ cut_demands o (demands_seen all)
  until_never inside inside' d es rest e new is p =
      ap demands_seen new ∙ demands_push inside (record d { need = needs.Never })
      ∙ sym (p ∙ ap (λ (l : List Demand). demands_seen inside ++ cut_demands o (demands_seen l)) e ∙ ap (λ (l : List sums.Demand). demands_seen inside ++ l) (until_on d es false is))

  pub until_end : (inside rest : List Demand) → rest ≡ [] → Until inside rest → demands_seen inside ≡ cut_demands o (demands_seen all)
  unfolding cut_demands
  until_end inside rest e p =
      sym (p ∙ ap (λ (l : List Demand). demands_seen inside ++ cut_demands o (demands_seen l)) e ∙ append-nil (demands_seen inside))

-- what is cut is as early as it was
before_by : (rows : ℕ) (w : sums.Written) (ws : List sums.Written) (b : Bool) → w.moment < rows → AreBefore rows ws → AreBefore rows (cond b (w ∷ ws) ws)
before_by rows w ws true le h = (le, h)
before_by rows w ws false le h = h

pub cut_before : (o : StreamOptions) (rows : ℕ) (ws : List sums.Written) → AreBefore rows ws → AreBefore rows (cut_writes o ws)
unfolding cut_writes
cut_before o rows [] h = tt
cut_before o rows (w ∷ ws) h = before_by rows w (cut_writes o ws) (is_id_in (size_of o w.table) w.id) h.0 (cut_before o rows ws h.1)
