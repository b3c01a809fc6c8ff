-- An accepted text denotes the clauses that are filed. Assumes nothing.
use Rattle.std.proofs.Common.{◌≡◌, ℕ, ◌<◌, ◌≤◌, true, ◌&&◌, ◌||◌, eqb, leb, ◌⊎◌, List, [], ◌∷◌, ◌++◌, length, ℤ, pos, Some, None, Ok, Option, Result, sym, refl, ◌∙◌, subst, ap₂, inl, inr, append_assoc, append-nil, arith, length-append}
use Rattle.std.proofs.lemmas.Bool.{cond_both, and_parts, leb-true, eqb-true}
use Rattle.cases.specs.Refusals.{usable}
use Rattle.lexer.specs.Headers.{headed, header_of}
use Rattle.lexer.specs.Text.{Piece, lines_from, tokens}
use Rattle.lexer.specs.declared.headers.Header.{Header}
use Rattle.points.specs.Sets.{greatest}
use Rattle.statements.specs.Clauses.{clause_of}
use Rattle.statements.specs.Literals.{named, bare, names, same_number}
use Rattle.statements.specs.Making.{made}
use Rattle.statements.specs.declared.clause.Clause.{Clause}
use Rattle.statements.proofs.MakeLaws.{Extended, extended_law, made_none, made_push}
use Rattle.dimacs.specs.Denoting.{and_then, numbers_of, Spells, nothing, clause, OnPoints, Case}
use Rattle.dimacs.specs.Reading.{Progress, Reading, begun, at_end, go_on, body, from_header, from_line, reading}
use Rattle.dimacs.specs.declared.fault.Cause.{Cause}
use Rattle.dimacs.proofs.StepLaws.{added_last, bare_last}
use Rattle.dimacs.proofs.TokenViews.{View, literal, finish, stop, token_view}

module _ (n announced rows end : ℕ) where
  -- the numbers zs of the clause that is not finished
  pub record Part (st : Progress) (zs : List ℤ) : Type 0 where
    pub group : made zs ≡ Ok st.pending
    pub known : greatest (named st.pending) ≤ n
    pub unfinished : (zs ≡ []) ⊎ (length st.filed < announced)
    pub room : length st.filed ≤ usable rows

  -- what an accepted rest of the tokens spells
  pub record Rest (ts : List Piece) (st : Progress) (zs : List ℤ) (m : ℕ) (out : Reading) : Type 0 where
    pub numbers : List ℤ
    pub cs : List Clause
    pub writes : numbers_of ts ≡ Some numbers
    pub spells : Spells (zs ++ numbers) cs
    pub known : OnPoints n cs
    pub clauses : out.clauses ≡ st.filed ++ cs
    pub count : length out.clauses ≡ announced
    pub points : m ≡ n
    pub room : length out.clauses ≤ usable rows

  abbrev Reads : List Piece → Type 0
  Reads ts = (st : Progress) (zs : List ℤ) → Part st zs → (m : ℕ) → (body n announced rows end ts st).answer ≡ Ok m → Rest ts st zs m (body n announced rows end ts st)

  -- at the end of the text
  at_end_lem : (st : Progress) (zs : List ℤ) → Part st zs → (m : ℕ) → (at_end n announced rows end st).answer ≡ Ok m → Rest [] st zs m (at_end n announced rows end st)
  unfolding numbers_of
  at_end_lem st zs p m =
      cond_both (eqb (length st.filed) announced) _ _ (λ (out : Reading). out.answer ≡ Ok m → Rest [] st zs m out)
      (λ t h.
      let full = eqb-true (length st.filed) announced t in
      record {
        numbers = [];
        cs = [];
        writes = refl;
        spells = subst (λ (x : List ℤ). Spells (x ++ []) []) (sym (whole p.unfinished full)) nothing;
        known = tt;
        clauses = sym (append-nil st.filed);
        count = full;
        points = cc;
        room = p.room;
      })
      (λ f h. cc)
    where
      whole : (zs ≡ []) ⊎ (length st.filed < announced) → length st.filed ≡ announced → zs ≡ []
      whole (inl e) f = e
      whole (inr l) f = absurd (omega arith)

  -- at a token
  at_token : (t : Piece) (ts : List Piece) → Reads ts → (st : Progress) (zs : List ℤ) → Part st zs → (m : ℕ) → {r : Result Progress Cause} → View n announced rows st t.1 r
      → (go_on n announced rows end (body n announced rows end ts) st.filed t.0 r).answer ≡ Ok m
      → Rest (t ∷ ts) st zs m (go_on n announced rows end (body n announced rows end ts) st.filed t.0 r)
  unfolding numbers_of
  at_token t ts on st zs p m (literal z s under is lit low e) h =
      let law : (w : ℤ) → names s w ≡ (names st.pending w || same_number w z) = subst (Extended st.pending z) e (extended_law st.pending z lit) in
      let r = on (record { filed = st.filed; pending = s }) (zs ++ z ∷ [])
      (record {
        group = made_push zs z st.pending p.group lit ∙ e;
        known = added_last st.pending s z n law p.known low;
        unfinished = inr under;
        room = p.room;
      })
      m h in
      record {
        numbers = z ∷ r.numbers;
        cs = r.cs;
        writes = ap₂ and_then is r.writes;
        spells = subst (λ (x : List ℤ). Spells x r.cs) (append_assoc zs (z ∷ []) r.numbers) r.spells;
        known = r.known;
        clauses = r.clauses;
        count = r.count;
        points = r.points;
        room = r.room;
      }
  at_token t ts on st zs p m (finish under is free) h =
      let c = clause_of st.pending in
      let r = on (record { filed = st.filed ++ c ∷ []; pending = bare }) []
      (record {
        group = made_none;
        known = omega (arith, bare_last);
        unfinished = inl refl;
        room = omega (arith, length-append st.filed (c ∷ []));
      })
      m h in
      record {
        numbers = pos 0 ∷ r.numbers;
        cs = c ∷ r.cs;
        writes = ap₂ and_then is r.writes;
        spells = clause zs c r.numbers r.cs p.group r.spells;
        known = (p.known, r.known);
        clauses = r.clauses ∙ append_assoc st.filed (c ∷ []) r.cs;
        count = r.count;
        points = r.points;
        room = r.room;
      }
  at_token t ts on st zs p m (stop e) h = cc

  reads : (ts : List Piece) → Reads ts
  unfolding body
  reads [] st zs p m h = at_end_lem st zs p m h
  reads (t ∷ ts) st zs p m h = at_token t ts (reads ts) st zs p m (token_view n announced rows st t.1) h

-- ---- the whole text

module _ (rows : ℕ) (text : List ℕ) (m : ℕ) where
  abbrev Takes : Reading → Type 0
  Takes x = x.answer ≡ Ok m → Case rows text m x.clauses

  from_header_lem : (line : Piece) (after : List Piece) → length text ≤ 16384 → headed (lines_from 0 text) ≡ Some (line, after)
      → (o : Option Header) → header_of line.1 ≡ o → Takes (from_header rows (length text) line.0 after o)
  from_header_lem line after short first None e = λ h. cc
  from_header_lem line after short first (Some d) e = cond_both (leb 1 d.points && leb d.points 64) _ _ Takes accept (λ f h. cc)
    where
      accept : (leb 1 d.points && leb d.points 64) ≡ true → (body d.points d.clauses rows (length text) (tokens after) begun).answer ≡ Ok m
          → Case rows text m (body d.points d.clauses rows (length text) (tokens after) begun).clauses
      accept t k =
          let b = and_parts (leb 1 d.points) (leb d.points 64) t in
          let r = reads d.points d.clauses rows (length text) (tokens after) begun []
          (record { group = made_none; known = omega (arith, bare_last); unfinished = inl refl; room = omega arith }) m k in
          let same = r.clauses in
          record {
            short = short;
            some = omega (arith, r.points, leb-true 1 d.points b.0);
            few = omega (arith, r.points, leb-true d.points 64 b.1);
            room = r.room;
            denotes = record {
              line = line;
              after = after;
              at = d.points_at;
              numbers = r.numbers;
              first = first;
              announces =
                  e ∙ ap₂ (λ (p k : ℕ). Some (record { points = p; points_at = d.points_at; clauses = k })) (sym r.points) (sym r.count);
              writes = r.writes;
              spells = subst (Spells r.numbers) (sym r.clauses) r.spells;
              known = subst (OnPoints m) (sym r.clauses) (subst (λ (p : ℕ). OnPoints p r.cs) (sym r.points) r.known);
            };
          }

  from_line_lem : length text ≤ 16384 → (o : Option (Piece × List Piece)) → headed (lines_from 0 text) ≡ o → Takes (from_line rows (length text) o)
  from_line_lem short None e = λ h. cc
  from_line_lem short (Some (line, after)) e = from_header_lem line after short e (header_of line.1) refl

  -- an accepted text is a case, and denotes the clauses that it files
  pub accepted_case : (reading rows text).answer ≡ Ok m → Case rows text m (reading rows text).clauses
  unfolding reading
  accepted_case =
      cond_both (leb (length text) 16384) _ _ Takes (λ t. from_line_lem (leb-true (length text) 16384 t) (headed (lines_from 0 text)) refl) (λ f h. cc)
