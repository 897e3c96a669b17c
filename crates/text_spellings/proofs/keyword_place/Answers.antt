use borrow.Author.Tests.{ne_eqb}
use mathlib.Core.Path.{refl, sym, ◌∙◌}
use Rattle.text_spellings.proofs.Laws as laws
use Rattle.text_spellings.proofs.keyword_place.Goals as goal

pub returns-then-w-lt2 : goal.returns-then-w-lt2
returns-then-w-lt2 c = sym (laws.too_short c.args.w.now c.if-w-lt2.true)

pub returns-in-97 : goal.returns-in-97
returns-in-97 c = c.from_a.ensures ∙ laws.by_first c.args.w.now c.in-97.is c.byte_at.ensures

pub returns-in-98 : goal.returns-in-98
returns-in-98 c = c.from_b.ensures ∙ laws.by_first c.args.w.now c.in-98.is c.byte_at.ensures

pub returns-in-99 : goal.returns-in-99
returns-in-99 c = c.from_c.ensures ∙ laws.by_first c.args.w.now c.in-99.is c.byte_at.ensures

pub returns-in-100 : goal.returns-in-100
returns-in-100 c = c.from_d.ensures ∙ laws.by_first c.args.w.now c.in-100.is c.byte_at.ensures

pub returns-in-101 : goal.returns-in-101
returns-in-101 c = c.from_e.ensures ∙ laws.by_first c.args.w.now c.in-101.is c.byte_at.ensures

pub returns-in-102 : goal.returns-in-102
returns-in-102 c = c.from_f.ensures ∙ laws.by_first c.args.w.now c.in-102.is c.byte_at.ensures

pub returns-in-103 : goal.returns-in-103
returns-in-103 c = c.from_g.ensures ∙ laws.by_first c.args.w.now c.in-103.is c.byte_at.ensures

pub returns-in-105 : goal.returns-in-105
returns-in-105 c = c.from_i.ensures ∙ laws.by_first c.args.w.now c.in-105.is c.byte_at.ensures

pub returns-in-108 : goal.returns-in-108
returns-in-108 c = c.from_l.ensures ∙ laws.by_first c.args.w.now c.in-108.is c.byte_at.ensures

pub returns-in-109 : goal.returns-in-109
returns-in-109 c = c.from_m.ensures ∙ laws.by_first c.args.w.now c.in-109.is c.byte_at.ensures

pub returns-in-111 : goal.returns-in-111
returns-in-111 c = c.from_o.ensures ∙ laws.by_first c.args.w.now c.in-111.is c.byte_at.ensures

pub returns-in-112 : goal.returns-in-112
returns-in-112 c = c.from_p.ensures ∙ laws.by_first c.args.w.now c.in-112.is c.byte_at.ensures

pub returns-in-114 : goal.returns-in-114
returns-in-114 c = c.from_r.ensures ∙ laws.by_first c.args.w.now c.in-114.is c.byte_at.ensures

pub returns-in-115 : goal.returns-in-115
returns-in-115 c = c.from_s.ensures ∙ laws.by_first c.args.w.now c.in-115.is c.byte_at.ensures

pub returns-in-116 : goal.returns-in-116
returns-in-116 c = c.from_t.ensures ∙ laws.by_first c.args.w.now c.in-116.is c.byte_at.ensures

pub returns-in-117 : goal.returns-in-117
returns-in-117 c = c.from_u.ensures ∙ laws.by_first c.args.w.now c.in-117.is c.byte_at.ensures

pub returns-in_default : goal.returns-in_default
returns-in_default c = simp (← laws.by_first c.args.w.now {b = c.byte_at.result} refl c.byte_at.ensures, ne_eqb c.byte_at.result 97 c.in_default.in_default-own.rest.0.0.0.0.0.0.0.0.0.0.0.0.0.0.0.1, ne_eqb c.byte_at.result 98 c.in_default.in_default-own.rest.0.0.0.0.0.0.0.0.0.0.0.0.0.0.1, ne_eqb c.byte_at.result 99 c.in_default.in_default-own.rest.0.0.0.0.0.0.0.0.0.0.0.0.0.1, ne_eqb c.byte_at.result 100 c.in_default.in_default-own.rest.0.0.0.0.0.0.0.0.0.0.0.0.1, ne_eqb c.byte_at.result 101 c.in_default.in_default-own.rest.0.0.0.0.0.0.0.0.0.0.0.1, ne_eqb c.byte_at.result 102 c.in_default.in_default-own.rest.0.0.0.0.0.0.0.0.0.0.1, ne_eqb c.byte_at.result 103 c.in_default.in_default-own.rest.0.0.0.0.0.0.0.0.0.1, ne_eqb c.byte_at.result 105 c.in_default.in_default-own.rest.0.0.0.0.0.0.0.0.1, ne_eqb c.byte_at.result 108 c.in_default.in_default-own.rest.0.0.0.0.0.0.0.1, ne_eqb c.byte_at.result 109 c.in_default.in_default-own.rest.0.0.0.0.0.0.1, ne_eqb c.byte_at.result 111 c.in_default.in_default-own.rest.0.0.0.0.0.1, ne_eqb c.byte_at.result 112 c.in_default.in_default-own.rest.0.0.0.0.1, ne_eqb c.byte_at.result 114 c.in_default.in_default-own.rest.0.0.0.1, ne_eqb c.byte_at.result 115 c.in_default.in_default-own.rest.0.0.1, ne_eqb c.byte_at.result 116 c.in_default.in_default-own.rest.0.1, ne_eqb c.byte_at.result 117 c.in_default.in_default-own.rest.1)
