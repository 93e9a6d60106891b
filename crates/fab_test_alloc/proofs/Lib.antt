mod Fields
mod NextRequest
