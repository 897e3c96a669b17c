-- Mechanism, held to the specification by `demand2` (crate `demands`), but for the operators' codes from `c_bit_xor` to `c_divide`, to which `code_of` (specs/Items.antt) counts.
-- The codes of a tree's items: the one place where they are numbered.
use Rattle.std.specs.Prelude.{ℕ}

abbrev pub c_name : ℕ
c_name = 70

abbrev pub c_number : ℕ
c_number = 71

abbrev pub c_text : ℕ
c_text = 72

abbrev pub c_or_else : ℕ
c_or_else = 147

abbrev pub c_and_then : ℕ
c_and_then = 148

abbrev pub c_bit_or : ℕ
c_bit_or = 149

abbrev pub c_bit_xor : ℕ
c_bit_xor = 150

abbrev pub c_bit_and : ℕ
c_bit_and = 151

abbrev pub c_same : ℕ
c_same = 152

abbrev pub c_differ : ℕ
c_differ = 153

abbrev pub c_less : ℕ
c_less = 154

abbrev pub c_at_most : ℕ
c_at_most = 155

abbrev pub c_more : ℕ
c_more = 156

abbrev pub c_at_least : ℕ
c_at_least = 157

abbrev pub c_shift_left : ℕ
c_shift_left = 158

abbrev pub c_shift_right : ℕ
c_shift_right = 159

abbrev pub c_add : ℕ
c_add = 160

abbrev pub c_subtract : ℕ
c_subtract = 161

abbrev pub c_multiply : ℕ
c_multiply = 162

abbrev pub c_divide : ℕ
c_divide = 163

abbrev pub c_remainder : ℕ
c_remainder = 164

abbrev pub c_negate : ℕ
c_negate = 165

abbrev pub c_not : ℕ
c_not = 166

abbrev pub c_complement : ℕ
c_complement = 167

abbrev pub c_bit : ℕ
c_bit = 168

abbrev pub c_bool : ℕ
c_bool = 169

abbrev pub c_byte : ℕ
c_byte = 170

abbrev pub c_mtype : ℕ
c_mtype = 171

abbrev pub c_pid : ℕ
c_pid = 172

abbrev pub c_chan : ℕ
c_chan = 173

abbrev pub c_short : ℕ
c_short = 174

abbrev pub c_int : ℕ
c_int = 175

abbrev pub c_plain : ℕ
c_plain = 176

abbrev pub c_index : ℕ
c_index = 177

abbrev pub c_true : ℕ
c_true = 178

abbrev pub c_false : ℕ
c_false = 179

abbrev pub c_len : ℕ
c_len = 180

abbrev pub c_otherwise : ℕ
c_otherwise = 181

abbrev pub c_choice : ℕ
c_choice = 182

abbrev pub c_argument : ℕ
c_argument = 183

abbrev pub c_into : ℕ
c_into = 184

abbrev pub c_equal : ℕ
c_equal = 185

abbrev pub c_constant : ℕ
c_constant = 186

abbrev pub c_end : ℕ
c_end = 187

abbrev pub c_label : ℕ
c_label = 188

abbrev pub c_express : ℕ
c_express = 189

abbrev pub c_target : ℕ
c_target = 190

abbrev pub c_assign : ℕ
c_assign = 191

abbrev pub c_increment : ℕ
c_increment = 192

abbrev pub c_decrement : ℕ
c_decrement = 193

abbrev pub c_send : ℕ
c_send = 194

abbrev pub c_receive : ℕ
c_receive = 195

abbrev pub c_assert : ℕ
c_assert = 196

abbrev pub c_skip : ℕ
c_skip = 197

abbrev pub c_goto : ℕ
c_goto = 198

abbrev pub c_break : ℕ
c_break = 199

abbrev pub c_timeout : ℕ
c_timeout = 200

abbrev pub c_else : ℕ
c_else = 201

abbrev pub c_run : ℕ
c_run = 202

abbrev pub c_set_run : ℕ
c_set_run = 203

abbrev pub c_if : ℕ
c_if = 204

abbrev pub c_fi : ℕ
c_fi = 205

abbrev pub c_do : ℕ
c_do = 206

abbrev pub c_od : ℕ
c_od = 207

abbrev pub c_option : ℕ
c_option = 208

abbrev pub c_end_option : ℕ
c_end_option = 209

abbrev pub c_local : ℕ
c_local = 210

abbrev pub c_global : ℕ
c_global = 211

abbrev pub c_declared : ℕ
c_declared = 212

abbrev pub c_size : ℕ
c_size = 213

abbrev pub c_value : ℕ
c_value = 214

abbrev pub c_minus : ℕ
c_minus = 215

abbrev pub c_named : ℕ
c_named = 216

abbrev pub c_channel : ℕ
c_channel = 217

abbrev pub c_field : ℕ
c_field = 218

abbrev pub c_mtypes : ℕ
c_mtypes = 219

abbrev pub c_message : ℕ
c_message = 220

abbrev pub c_group : ℕ
c_group = 221

abbrev pub c_parameter : ℕ
c_parameter = 222

abbrev pub c_proctype : ℕ
c_proctype = 223

abbrev pub c_active : ℕ
c_active = 224

abbrev pub c_active_many : ℕ
c_active_many = 225

abbrev pub c_init : ℕ
c_init = 226

abbrev pub c_body : ℕ
c_body = 227

abbrev pub c_end_body : ℕ
c_end_body = 228

abbrev pub c_end_closed : ℕ
c_end_closed = 229
