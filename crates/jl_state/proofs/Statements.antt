-- A statement's terms, one position after another.
use Rattle.std.proofs.Common.{◌≡◌, ℕ, ◌==◌, ◌&&◌, ◌||◌, Bool, true, false, List, [], ◌∷◌, Option, Some, None, is_none, Result, Ok, Err, refl, ap, sym, ◌∙◌, cond}
use Rattle.jl_base.specs.Results.{◌>>=◌, some_or}
use Rattle.jl_base.specs.Terms.{Value, Item}
use Rattle.jl_base.specs.declared.kind.Kind.{Kind}
use Rattle.jl_base.specs.declared.kind.Kind.TheVariants.{NoGraph}
use Rattle.jl_rows.specs.Written.{Ids, Term, StreamOptions}
use Rattle.jl_rows.specs.Decoder.{is_quads, is_graphs, stated}
use Rattle.jl_state.specs.States.{State, slots_in}
use Rattle.jl_state.specs.Steps.{Stepped, Looked, placed, graph_for, triple_step, quad_step}
use Rattle.jl_state.specs.declared.stop.Stop.{Stop}
use Rattle.jl_state.specs.declared.stop.Stop.TheVariants.{Fault, NoMemory}
use Rattle.jl_state.specs.Answers.{Stops, WantsFor}
use Rattle.jl_state.specs.declared.state.State as code
use Rattle.jl_state.specs.declared.known.Known.{Known}
use Rattle.jl_rows.specs.Seen.{options_seen}
use Rattle.jl_state.specs.Lawful.{held, value_or_default, statement_of, maybe_value}

-- what a position holds is the value that was looked up
pub record IsHeldAs (l : Looked) (v : Option Value) (ids : Ids) : Type 0 where
  pub value : Value
  pub was : l ≡ Ok (value, ids)
  pub shown : v ≡ Some value

pub held_as : (l : Looked) (v : Option Value) (ids : Ids) → held l ≡ Ok (v, ids) → IsHeldAs l v ids
held_as (Ok p) v ids e =
    let same : ◌≡◌ {A = Option Value × Ids} (Some p.0, p.1) (v, ids) = cc in
    record {
      value = p.0;
      was = ap (λ (i : Ids). let r : Result (Value × Ids) Kind = Ok (p.0, i) in r) (ap (λ (x : Option Value × Ids). x.1) same);
      shown = sym (ap (λ (x : Option Value × Ids). x.0) same);
    }
held_as (Err k) v ids e = cc

-- the graph that a triple belongs to, where it lacks none
graph_there : (b : Bool) (g : Option Value) → (b && is_none g) ≡ false → ◌≡◌ {A = Result (Option Value) Kind} (cond b (some_or g NoGraph >>= λ x. Ok (Some x)) (Ok None)) (Ok (cond b (Some (value_or_default g)) None))
graph_there true (Some g) e = refl
graph_there true None e = cc
graph_there false g e = refl

stated_there : (b : Bool) (g s p o : Value) → stated (cond b (Some g) None) s p o ≡ cond b (Item.Quad s p o g) (Item.Triple s p o)
stated_there true g s p o = refl
stated_there false g s p o = refl

-- the state behind a statement, and the statement
abbrev pub behind_triple : StreamOptions → State → Option Value → Option Value → Option Value → Ids → State × List Item
behind_triple o t S P O k = (record t { ids = k; subject = S; predicate = P; object = O }, statement_of o (record t { ids = k; subject = S; predicate = P; object = O }) ∷ [])

abbrev pub behind_quad : StreamOptions → State → Option Value → Option Value → Option Value → Option Value → Ids → State × List Item
behind_quad o t S P O G m = (record t { ids = m; subject = S; predicate = P; object = O; graph = G }, statement_of o (record t { ids = m; subject = S; predicate = P; object = O; graph = G }) ∷ [])

module _ (o : StreamOptions) (t : State) (x y z : Term) (there : (is_graphs o && is_none t.open_graph) ≡ false) where
  first : graph_for o t ≡ Ok (cond (is_graphs o) (Some (value_or_default t.open_graph)) None)
  first = graph_there (is_graphs o) t.open_graph there

  pub triple_none : (k : Kind) → placed (slots_in t) t.ids t.subject x ≡ Err k → triple_step o x y z t ≡ Err k
  triple_none k e = rw (first, e) refl

  pub triple_one : (S : Option Value) (i : Ids) (k : Kind) → held (placed (slots_in t) t.ids t.subject x) ≡ Ok (S, i) → placed (slots_in t) i t.predicate y ≡ Err k → triple_step o x y z t ≡ Err k
  triple_one S i k h e = let a = held_as _ S i h in rw (first, a.was, e) refl

  pub triple_two : (S P : Option Value) (i j : Ids) (k : Kind) → held (placed (slots_in t) t.ids t.subject x) ≡ Ok (S, i) → held (placed (slots_in t) i t.predicate y) ≡ Ok (P, j) → placed (slots_in t) j t.object z ≡ Err k → triple_step o x y z t ≡ Err k
  triple_two S P i j k h h2 e = let a = held_as _ S i h in let b = held_as _ P j h2 in rw (first, a.was, b.was, e) refl

  triple_values : (a b c : Value) (i j k : Ids) → is_quads o ≡ false → placed (slots_in t) t.ids t.subject x ≡ Ok (a, i) → placed (slots_in t) i t.predicate y ≡ Ok (b, j) → placed (slots_in t) j t.object z ≡ Ok (c, k)
      → triple_step o x y z t ≡ Ok (behind_triple o t (Some a) (Some b) (Some c) k)
  triple_values a b c i j k form p q r =
      rw (form, first, p, q, r)
      (ap (λ (item : Item). let r : Result (State × List Item) Kind = Ok (record t { ids = k; subject = Some a; predicate = Some b; object = Some c }, item ∷ []) in r)
      (stated_there (is_graphs o) (value_or_default t.open_graph) a b c))

  pub triple_three : (S P O : Option Value) (i j k : Ids) → is_quads o ≡ false → held (placed (slots_in t) t.ids t.subject x) ≡ Ok (S, i) → held (placed (slots_in t) i t.predicate y) ≡ Ok (P, j) → held (placed (slots_in t) j t.object z) ≡ Ok (O, k)
      → triple_step o x y z t ≡ Ok (behind_triple o t S P O k)
  triple_three S P O i j k form h h2 h3 =
      let a = held_as _ S i h in
      let b = held_as _ P j h2 in
      let c = held_as _ O k h3 in
      triple_values a.value b.value c.value i j k form a.was b.was c.was
      ∙ ap (λ (v : Option Value). let r : Stepped = Ok (behind_triple o t v (Some b.value) (Some c.value) k) in r) (sym a.shown)
      ∙ ap (λ (v : Option Value). let r : Stepped = Ok (behind_triple o t S v (Some c.value) k) in r) (sym b.shown)
      ∙ ap (λ (v : Option Value). let r : Stepped = Ok (behind_triple o t S P v k) in r) (sym c.shown)

module _ (o : StreamOptions) (t : State) (x y z w : Term) where
  pub quad_one : (S : Option Value) (i : Ids) (k : Kind) → held (placed (slots_in t) t.ids t.subject x) ≡ Ok (S, i) → placed (slots_in t) i t.predicate y ≡ Err k → quad_step x y z w t ≡ Err k
  quad_one S i k h e = let a = held_as _ S i h in rw (a.was, e) refl

  pub quad_two : (S P : Option Value) (i j : Ids) (k : Kind) → held (placed (slots_in t) t.ids t.subject x) ≡ Ok (S, i) → held (placed (slots_in t) i t.predicate y) ≡ Ok (P, j) → placed (slots_in t) j t.object z ≡ Err k → quad_step x y z w t ≡ Err k
  quad_two S P i j k h h2 e = let a = held_as _ S i h in let b = held_as _ P j h2 in rw (a.was, b.was, e) refl

  pub quad_three : (S P O : Option Value) (i j l : Ids) (k : Kind) → held (placed (slots_in t) t.ids t.subject x) ≡ Ok (S, i) → held (placed (slots_in t) i t.predicate y) ≡ Ok (P, j) → held (placed (slots_in t) j t.object z) ≡ Ok (O, l) → placed (slots_in t) l t.graph w ≡ Err k → quad_step x y z w t ≡ Err k
  quad_three S P O i j l k h h2 h3 e = let a = held_as _ S i h in let b = held_as _ P j h2 in let c = held_as _ O l h3 in rw (a.was, b.was, c.was, e) refl

  quad_values : (a b c d : Value) (i j l m : Ids) → is_quads o ≡ true → placed (slots_in t) t.ids t.subject x ≡ Ok (a, i) → placed (slots_in t) i t.predicate y ≡ Ok (b, j) → placed (slots_in t) j t.object z ≡ Ok (c, l) → placed (slots_in t) l t.graph w ≡ Ok (d, m)
      → quad_step x y z w t ≡ Ok (behind_quad o t (Some a) (Some b) (Some c) (Some d) m)
  quad_values a b c d i j l m form p q r u = rw (form, p, q, r, u) refl

  pub quad_four : (S P O G : Option Value) (i j l m : Ids) → is_quads o ≡ true → held (placed (slots_in t) t.ids t.subject x) ≡ Ok (S, i) → held (placed (slots_in t) i t.predicate y) ≡ Ok (P, j) → held (placed (slots_in t) j t.object z) ≡ Ok (O, l) → held (placed (slots_in t) l t.graph w) ≡ Ok (G, m)
      → quad_step x y z w t ≡ Ok (behind_quad o t S P O G m)
  quad_four S P O G i j l m form h h2 h3 h4 =
      let a = held_as _ S i h in
      let b = held_as _ P j h2 in
      let c = held_as _ O l h3 in
      let d = held_as _ G m h4 in
      quad_values a.value b.value c.value d.value i j l m form a.was b.was c.was d.was
      ∙ ap (λ (v : Option Value). let r : Stepped = Ok (behind_quad o t v (Some b.value) (Some c.value) (Some d.value) m) in r) (sym a.shown)
      ∙ ap (λ (v : Option Value). let r : Stepped = Ok (behind_quad o t S v (Some c.value) (Some d.value) m) in r) (sym b.shown)
      ∙ ap (λ (v : Option Value). let r : Stepped = Ok (behind_quad o t S P v (Some d.value) m) in r) (sym c.shown)
      ∙ ap (λ (v : Option Value). let r : Stepped = Ok (behind_quad o t S P O v m) in r) (sym d.shown)

-- what stops the one stops the other
pub stops_on : {A B : Type 0} (said : Result A Kind) (all : Result B Kind) (stop : Stop) → ((k : Kind) → said ≡ Err k → all ≡ Err k) → Stops said stop → Stops all stop
stops_on said all (Fault kind) on h = on kind h
stops_on said all NoMemory on h = tt

-- memory that the last of four terms wants
last_of_four : (a b c d : Bool) → d ≡ true → (a || (b || (c || d))) ≡ true
last_of_four true b c d e = refl
last_of_four false true c d e = refl
last_of_four false false true d e = refl
last_of_four false false false d e = e

pub wants_fourth : (a b c d : Bool) (stop : Stop) → WantsFor d stop → WantsFor (a || (b || (c || d))) stop
wants_fourth a b c d (Fault kind) h = tt
wants_fourth a b c d NoMemory h = last_of_four a b c d h

-- the code's test, on what the state stands for
pub graph_is_there : (bytes : List ℕ) (s : code.State) {b : Bool} → b ≡ false → b ≡ ((s.options.physical == 3) && is_none s.open_graph) → (is_graphs (options_seen bytes s.options) && is_none (maybe_value bytes s.open_graph)) ≡ false
graph_is_there bytes s {b} lacks is = by_option (s.options.physical == 3) s.open_graph (sym is ∙ lacks)
  where
    by_option : (g : Bool) (k : Option Known) → (g && is_none k) ≡ false → (g && is_none (maybe_value bytes k)) ≡ false
    by_option g (Some k) e = e
    by_option g None e = e
