-- Fields that fit the bytes of a record.
use Rattle.std.specs.Prelude.{ℕ, ◌<◌, ◌≡◌, List, [], ◌∷◌, get_or}
use Rattle.base.specs.Lists.{All}
use Rattle.annex.specs.declared.Step.{Step}
use Rattle.fields.specs.declared.Head.{Head}

-- numbers that four bytes hold
abbrev pub Fours : List ℕ → Type 0
Fours ns = All (λ (n : ℕ). n < 4294967296) ns

pub record HeadInBytes (h : Head) : Type 0 where
  pub number : h.number < 65536
  pub typ : h.typ < 256
  pub voltage : h.voltage < 256
  pub cause : h.cause < 256
  pub t0 : h.t0 < 4294967296

pub record StepInBytes (st : Step) : Type 0 where
  pub time : st.time < 4294967296
  pub nn : get_or st.counts 0 0 < 4294967296
  pub vn : get_or st.counts 1 0 < 4294967296
  pub vvn : get_or st.counts 2 0 < 4294967296
  pub three : get_or st.counts 0 0 ∷ get_or st.counts 1 0 ∷ get_or st.counts 2 0 ∷ [] ≡ st.counts
